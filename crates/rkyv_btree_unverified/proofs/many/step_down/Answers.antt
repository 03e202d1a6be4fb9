-- The search of a node ends there, or goes on below it.
use Rattle.std.proofs.Common.{rules, arith, ◌+◌, ◌<◌, ◌≤◌, length, Ok, Some, None}
use Rattle.rkyv_btree_unverified.proofs.Goes.{hit_gives, miss_gives, down_gives}
use Rattle.rkyv_btree_unverified.proofs.ManyWays.{found_stands, none_stands, step_ends, step_goes}
use Rattle.rkyv_btree_unverified.specs.Steps.{HasRoom}
use Rattle.rkyv_btree_view.proofs.Lookups.{count_room}
use Rattle.rkyv_btree_unverified.proofs.many.step_down.Goals as goal

pub search_node-requires : goal.search_node-requires
search_node-requires g c κs =
    let K = g.K.Portable.kind in let V = g.V.Portable.kind in let E = g.M.ArchivedMap.E in
    let stands = rw c.in-On.is at c.requires.stands in
    let room : HasRoom K V E c.in-On.hi c.in-On.node = stands.0 in
    let inside : c.in-On.hi ≤ length c.args.buf.now = stands.1 in
    let short : length c.args.buf.now ≤ 4294967295 = stands.2 in
    let few = count_room K V E g.met.K.Portable.laws g.met.V.Portable.laws c.requires.fitting 0 E (omega arith) (omega arith) in
    let steps : c.new-steps.result + E < 18446744073709551616 = omega (arith, few, c.new-steps.ensures) in
    search rules

pub returns-in-Ok-Hit : goal.returns-in-Ok-Hit
returns-in-Ok-Hit g c =
    let K = g.K.Portable.kind in let V = g.V.Portable.kind in let E = g.M.ArchivedMap.E in
    let b = c.args.buf.now in let KR = g.K.CheckBytes.Refuses in let VR = g.V.CheckBytes.Refuses in
    let stands = rw c.in-On.is at c.requires.stands in
    let found = rw c.in-Ok-Hit.field-0-is at c.in-Ok-Hit.ensures.stands in
    rw c.in-On.is (step_ends K V E b KR VR _ c.args.key.now c.in-On.node c.in-On.hi (Ok (Some (c.in-On.node, c.in-Ok-Hit.i))) (found_stands K V E b c.in-On.node c.in-Ok-Hit.i stands.2 found)
    (λ m f p. hit_gives K V E b (f c.args.key.now) KR VR m c.in-On.hi c.in-On.node c.in-Ok-Hit.field-0 (c.in-Ok-Hit.ensures.gives f p m) c.in-Ok-Hit.i c.in-Ok-Hit.field-0-is))

pub returns-in-Ok-Miss : goal.returns-in-Ok-Miss
returns-in-Ok-Miss g c =
    let K = g.K.Portable.kind in let V = g.V.Portable.kind in let E = g.M.ArchivedMap.E in
    let b = c.args.buf.now in let KR = g.K.CheckBytes.Refuses in let VR = g.V.CheckBytes.Refuses in
    let stands = rw c.in-On.is at c.requires.stands in
    rw c.in-On.is (step_ends K V E b KR VR _ c.args.key.now c.in-On.node c.in-On.hi (Ok None) (none_stands K V E b stands.2)
    (λ m f p. miss_gives K V E b (f c.args.key.now) KR VR m c.in-On.hi c.in-On.node c.in-Ok-Miss.field-0 (c.in-Ok-Miss.ensures.gives f p m) c.in-Ok-Miss.field-0-is))

pub returns-in-Ok-Down : goal.returns-in-Ok-Down
returns-in-Ok-Down g c =
    let K = g.K.Portable.kind in let V = g.V.Portable.kind in let E = g.M.ArchivedMap.E in
    let b = c.args.buf.now in let KR = g.K.CheckBytes.Refuses in let VR = g.V.CheckBytes.Refuses in
    let stands = rw c.in-On.is at c.requires.stands in
    let room = rw c.in-Ok-Down.field-0-is at c.in-Ok-Down.ensures.stands in
    rw c.in-On.is (step_goes K V E b KR VR _ c.args.key.now c.in-On.node c.in-On.hi c.in-Ok-Down.below (room, omega (arith, stands.0.room, stands.1), stands.2)
    (λ m f p. down_gives K V E b (f c.args.key.now) KR VR m c.in-On.hi c.in-On.node c.in-Ok-Down.field-0 (c.in-Ok-Down.ensures.gives f p m) c.in-Ok-Down.below c.in-Ok-Down.field-0-is))
