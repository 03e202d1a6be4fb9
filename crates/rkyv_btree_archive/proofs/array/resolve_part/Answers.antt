-- Without a resolver the bytes are zeros.
use Rattle.std.proofs.Common.{◌≡◌, ◌+◌, ◌-◌, ◌∙◌, ℕ, length, take, drop, sym, ap, subst, arith, Option}
use Rattle.std.proofs.lemmas.List.{length-take-le, length-drop}
use Rattle.std.specs.List.{splice}
use Rattle.rkyv_btree_archive.proofs.Pieces.{put_part}
use Rattle.rkyv_btree_archive.specs.ArrayArchival.{PartResolves}
use Rattle.rkyv_btree_portable.specs.Bytes.{zeros}
use Rattle.rkyv_btree_portable.specs.laws.Holding.{length-zeros}
use Rattle.rkyv_btree_archive.proofs.array.resolve_part.Goals as goal

pub returns-in-None-clause-ok : goal.returns-in-None-clause-ok
returns-in-None-clause-ok g c =
    let start = c.args.start in
    let bytes = c.args.bytes.now in
    let size = g.T.Archived.Portable.kind.size in
    let count = start + c.size.result - start in
    let same : size ≡ g.T.Archive.archival.kind.size = sym g.met.T.Archive.same_kind.size in
    let as_many : count ≡ size = omega (arith, c.size.ensures) in
    let long : length (take count (drop start bytes)) ≡ size = length-take-le count (drop start bytes) (omega (arith, as_many, c.requires.room, length-drop start bytes)) ∙ as_many in
    let clear : c.fill.new.self ≡ zeros size = c.fill.ensures.after (λ y e. e) ∙ ap zeros long in
    let len : length c.fill.new.self ≡ size = ap length clear ∙ length-zeros size in
    let put = put_part bytes c.fill.new.self start count (as_many ∙ sym len) in
    (c.fill.new.self, subst (λ (r : Option g.row.T-Resolver.Denot). PartResolves g.T.Archive.archival c.args.element.now r c.args.pos c.fill.new.self) (sym c.in-None.is) (clear ∙ ap zeros same), len, put)
