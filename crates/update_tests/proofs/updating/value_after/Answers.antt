-- The map that was written is opened, and a lookup in it finds the last word on the key.
use Rattle.std.proofs.Common.{◌≡◌, [], refl, sym, subst, ◌∙◌}
use Rattle.std.specs.BTreeMap.{is_at}
use Rattle.std.specs.Map.{lookup}
use Rattle.std.specs.Option.{option_map}
use Rattle.std.specs.Ordering.{nat_cmp}
use Rattle.rkyv_btree.specs.Strict.{IsStrictMap}
use Rattle.rkyv_btree.specs.View.{entries_of}
use Rattle.rkyv_btree_base.specs.Scalars.{u32_kind}
use Rattle.rkyv_btree_update.specs.Updated.{changes_meant, last_word, updated}
use Rattle.update_tests.proofs.Found.{found_after, number_lent}
use Rattle.update_tests.proofs.updating.value_after.Goals as goal

pub unreachable-requires : goal.unreachable-requires
unreachable-requires c =
    let list = updated nat_cmp (entries_of u32_kind u32_kind 5 c.args.old.view) (changes_meant (λ n. n) (λ n. n) c.args.changes.now) in
    let strict = (c.in_ok-pos.ensures.ok number_lent number_lent).strict [] (rw c.new-writer.ensures refl) in
    let there = subst (λ b. IsStrictMap u32_kind u32_kind 5 b c.in_ok-pos.pos list) (sym c.bytes.ensures) strict in
    absurd (cc (rw c.in-Err.is at (c.access_strict.ensures.exact.accepts.1 (list, there))))

pub returns : goal.returns
returns c =
    let old = entries_of u32_kind u32_kind 5 c.args.old.view in
    let strict = (c.in_ok-pos.ensures.ok number_lent number_lent).strict [] (rw c.new-writer.ensures refl) in
    let found = found_after c.update.new.writer.contents c.in_ok-pos.pos c.args.key old c.args.changes.now strict c.args.old.increasing c.in_ok-pos.ensures.in_order in
    let buffer : c.in-Ok.map.view.buf.now ≡ c.update.new.writer.contents = c.in-Ok.ensures.buffer ∙ c.bytes.ensures in
    let here : option_map (λ n. n) (lookup (is_at (nat_cmp c.args.key)) (entries_of u32_kind u32_kind 5 c.in-Ok.map.view))
    ≡ last_word (lookup (is_at (nat_cmp c.args.key)) c.args.changes.now) (lookup (is_at (nat_cmp c.args.key)) old) = rw (buffer, c.in-Ok.ensures.position) found in
    c.get_native_by.ensures (λ n. n) (λ b at. refl) nat_cmp (λ n b at. refl) ∙ here
