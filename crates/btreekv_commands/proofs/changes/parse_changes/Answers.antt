-- Nothing is left at the end, or the first line that is left is no change.
use Rattle.std.proofs.Common.{◌≡◌, ℕ, ◌+◌, ◌≤◌, List, [], ◌∷◌, ◌++◌, length, refl, arith, rules}
use Rattle.std.proofs.lemmas.List.{length-map}
use Rattle.rkyv_btree_update.specs.Updated.{change_meant}
use Rattle.btreekv_commands.specs.Changing.{TextChange}
use Rattle.btreekv_commands.proofs.ChangeLines.{all_read, bad_read, one_read}
use Rattle.btreekv_commands.proofs.changes.parse_changes.Goals as goal

none_left : (xs : List ℕ) → length xs ≤ 0 → xs ≡ []
none_left [] few = refl
none_left (x ∷ xs) few = absurd (omega arith)

pub returns-clause-ok : goal.returns-clause-ok
returns-clause-ok c =
    all_read _ _ _ c.loop-rest.invariant (none_left c.loop-rest.rest.now (omega arith))

pub returns-in_default-clause-err : goal.returns-in_default-clause-err
returns-in_default-clause-err c =
    bad_read c.args.bytes.now c.loop-rest.rest.now c.first_line.result.0.now c.first_line.result.1.now _ (c.len.result + 1) c.loop-rest.invariant
    c.first_line.ensures.lines c.in_default.ensures.none
    (omega (
      arith,
      c.len.ensures,
      c.loop-rest.changes.ok.0,
      length-map {B = TextChange} c.loop-rest.changes.items
          (λ d. (d.0.now, change_meant (λ v. v.now) d.1)),
    ))

pub loop-rest-preserved : goal.loop-rest-preserved
loop-rest-preserved c =
    let pushed : c.push.new.self.items ≡ c.loop-rest.changes.items ++ c.in-Some.change ∷ [] = search rules in
    one_read (λ d. (d.0.now, change_meant (λ v. v.now) d.1)) c.args.bytes.now c.loop-rest.rest.now c.first_line.result.0.now c.first_line.result.1.now
    c.loop-rest.changes.items c.push.new.self.items c.in-Some.change c.loop-rest.invariant c.first_line.ensures.lines c.in-Some.ensures.found pushed
