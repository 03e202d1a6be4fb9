use Rattle.std.proofs.Common.{◌≡◌, ◌==◌, ◌<◌, ◌∙◌, ℕ, zero, suc, Bool, false, Vec, length, vec_len, sym, ap, arith}
use Rattle.std.proofs.lemmas.Bool.{eqb-true}
use Rattle.std.proofs.lemmas.List.{nil_from_length}
use Rattle.rkyv_btree_archive.specs.mirror.Source.{last_taken}
use Rattle.rkyv_btree_archive.proofs.Sources.{key_of_leaf, moved}
use Rattle.rkyv_btree_archive.proofs.waiting.keep_last.Goals.{then-is_empty+in-Some, then-is_empty+in_default, else-is_empty}
use Rattle.rkyv_btree_archive.proofs.waiting.keep_last.Goals as goal

filled : (n : ℕ) (test : Bool) → test ≡ (n == 0) → test ≡ false → 0 < n
filled zero test is given = absurd (cc (is, given))
filled (suc n) test is given = omega arith

pub returns-clause-last : goal.returns-clause-last
returns-clause-last g c = elim c.if-is_empty.branch [
  | then-is_empty+in-Some w ↦
      let none : length c.args.leaf.now.items ≡ 0 = omega (arith, eqb-true (vec_len c.args.leaf.now) 0 (sym c.is_empty.ensures ∙ w.if-is_empty.true), c.args.leaf.now.ok.0) in
      moved c.args.waiting.now.items c.truncate.new.self.items w.pop.new.self.items c.args.leaf.now.items c.if-is_empty.leaf.items w.in-Some.item (nil_from_length c.args.leaf.now.items none) w.in-Some.ensures.items
      (ap (λ (v : Vec (g.row.B.Denot × g.row.C.Denot) g.row.A.Denot). v.items) w.leaf-is ∙ w.push.ensures.items)
  | then-is_empty+in_default w ↦ absurd (omega (arith, w.in_default.ensures.cases.0, c.requires.some, c.args.waiting.now.ok.0))
  | else-is_empty w ↦
      let some : 0 < length c.args.leaf.now.items = omega (arith, filled (vec_len c.args.leaf.now) c.is_empty.result c.is_empty.ensures w.if-is_empty.false, c.args.leaf.now.ok.0) in
      ap (λ (v : Vec (g.row.B.Denot × g.row.C.Denot) g.row.A.Denot). last_taken c.truncate.new.self.items v.items) w.leaf-is
      ∙ key_of_leaf c.truncate.new.self.items c.args.waiting.now.items c.args.leaf.now.items some
]
