use Rattle.std.proofs.Common.{◌≡◌, ◌++◌, codes, List, ℕ, subst}
use Rattle.rkyv_btree_typed.proofs.Stripped.{then_strips}
use Rattle.rkyv_btree_typed.proofs.type_name.ArchivedPlainTypeName.strip_name.Goals as goal

pub returns : goal.returns
returns g c =
    let name = g.N.StatedName.stated in
    let result = c.strip-3.result in
    let named : c.in_ok-name.name.now ≡ name ++ c.in_ok-end.end.now = subst (λ (z : List ℕ). c.in_ok-name.name.now ≡ z ++ c.in_ok-end.end.now) c.stated_name.ensures c.in_ok-end.ensures in
    then_strips (codes "<") (name ++ codes ">") c.args.bytes.now c.in_ok-name.name result c.in_ok-name.ensures
    (then_strips name (codes ">") c.in_ok-name.name.now c.in_ok-end.end result named c.strip-3.ensures)
