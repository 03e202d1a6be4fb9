-- The value found is written, or nothing is.
use Rattle.std.proofs.Common.{◌≡◌, [], ◌∷◌, ◌++◌, decimal, rules, ◌∙◌, refl, subst}
use Rattle.std.specs.Ordering.{nat_cmp}
use Rattle.rkyv_btree_portable.specs.Scalars.{u32_kind}
use Rattle.btreearc_commands.specs.Opening.{IsInput, entries_read}
use Rattle.btreearc_commands.proofs.Found.{prints_none, prints_some, output_ended, found_there}
use Rattle.btreearc_commands.proofs.program.get.Goals as goal

pub returns-in_default-clause-done : goal.returns-in_default-clause-done
returns-in_default-clause-done g c =
    let map = c.in_ok-open.field-0 in
    let archive = c.in_ok-archive.archive.items in
    let there = found_there map.buf.now archive map.pos c.args.key (c.in_ok-open.ensures.buffer ∙ c.deref.ensures.value) (rw c.deref.ensures.value at c.in_ok-open.ensures.position) in
    let found = rw there at (c.in_default.ensures nat_cmp (λ n b at. refl)).found in
    output_ended (g.R.Read.remaining c.args.input.now) (g.W.Write.contents c.args.output.now) _ archive (entries_read map.buf.now map.pos) c.args.key 1 c.in_ok-archive.ensures.all
    (subst (λ b. IsInput b (entries_read map.buf.now map.pos)) c.deref.ensures.value (c.in_ok-open.ensures.headed, c.in_ok-open.ensures.accepted))
    (prints_none _ _ found)

pub returns-clause-done : goal.returns-clause-done
returns-clause-done g c =
    let map = c.in_ok-open.field-0 in
    let archive = c.in_ok-archive.archive.items in
    let there = found_there map.buf.now archive map.pos c.args.key (c.in_ok-open.ensures.buffer ∙ c.deref.ensures.value) (rw c.deref.ensures.value at c.in_ok-open.ensures.position) in
    let line : c.as_bytes.result.now ≡ decimal (u32_kind.read c.in-Some.value.buf.now c.in-Some.value.pos) ++ 10 ∷ [] = search rules in
    let found = rw there at (c.in-Some.ensures nat_cmp (λ n b at. refl)).found in
    output_ended (g.R.Read.remaining c.args.input.now) (g.W.Write.contents c.args.output.now) _ archive (entries_read map.buf.now map.pos) c.args.key 0 c.in_ok-archive.ensures.all
    (subst (λ b. IsInput b (entries_read map.buf.now map.pos)) c.deref.ensures.value (c.in_ok-open.ensures.headed, c.in_ok-open.ensures.accepted))
    (prints_some _ _ _ (u32_kind.read c.in-Some.value.buf.now c.in-Some.value.pos) c.as_bytes.result.now found line c.in_ok-write_all.ensures.all)
