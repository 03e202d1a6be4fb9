-- The length is that of the type's own nodes, and of more entries or bytes it is no less.
use Rattle.std.proofs.Common.{◌≡◌, ◌≤◌, ◌∙◌, ap, subst}
use Rattle.std.specs.Prelude.{Option, unwrap_or}
use Rattle.rkyv_btree_ffi.proofs.Lengths.{enough}
use Rattle.rkyv_btree_ffi.specs.Lengths.{layout, most_len}
use Rattle.rkyv_btree_ffi.specs.declared.map_type.MapType.{MapType}
use Rattle.rkyv_btree_ffi.proofs.bound.rkyv_btree_build_bound.Goals as goal

pub returns-in-Ok-clause-enough : goal.returns-in-Ok-clause-enough
returns-in-Ok-clause-enough c = λ t is ok n texts few less.
    let same : c.in-Some.at ≡ t = ap (λ (o : Option MapType). unwrap_or o c.in-Some.at) (c.in-Some.ensures ∙ is) in
    subst (λ (u : MapType). most_len u n texts ≤ c.in-Ok.len) same (rw c.in-Ok.ensures.2 (enough (layout c.in-Some.at) c.sizes_at.result c.sizes_at.ensures n c.args.entries_len texts c.args.texts_len few less))
