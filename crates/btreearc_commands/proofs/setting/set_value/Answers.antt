-- What the library ensures at the root is what is promised of the archive.
use Rattle.std.proofs.Common.{ℕ, List, ◌∙◌, subst, refl, rules}
use Rattle.std.specs.Ordering.{nat_cmp}
use Rattle.rkyv_btree_portable.specs.Scalars.{u32_kind}
use Rattle.rkyv_btree_portable.specs.laws.InPlace.{scalar_in_place}
use Rattle.rkyv_btree_portable.specs.laws.Natives.{u32_faithful}
use Rattle.rkyv_btree_portable.specs.laws.Scalars.{u32_laws}
use Rattle.rkyv_btree_portable.specs.laws.Views.{stands_of}
use Rattle.rkyv_btree_verify.proofs.MapLaws.{map_laws}
use Rattle.btreearc_commands.specs.Opening.{root_of}
use Rattle.btreearc_commands.specs.Setting.{SetsValue}
use Rattle.btreearc_commands.proofs.Built.{numbers_fit}
use Rattle.btreearc_commands.proofs.Edited.{sets_value}
use Rattle.btreearc_commands.proofs.setting.set_value.Goals as goal

pub at-map-requires : goal.at-map-requires
at-map-requires c =
    let opened = c.requires.accepted.1 in
    rw c.requires.root (stands_of (map_laws u32_kind u32_kind 5 u32_laws u32_laws) numbers_fit c.args.archive.now 0 (root_of c.args.archive.now) (root_of c.args.archive.now) opened.0 c.requires.accepted.0 opened.1)

pub returns : goal.returns
returns c entries opened =
    let writes = c.writes_put_values.ensures (scalar_in_place u32_faithful).alone in
    let root = c.at-map.ensures.position ∙ c.requires.root in
    let sets = rw (c.at-map.ensures.buffer, root) at ((c.set_by.ensures.set nat_cmp (λ n b at. refl)).sets) in
    subst (λ (made : List ℕ). SetsValue c.args.key c.args.value entries c.args.archive.now made c.set_by.result) (search rules)
    (sets_value c.args.key c.args.value c.ranges.value.fits writes c.args.archive.now _ entries opened c.set_by.result sets)
