-- What is found is set.
use Rattle.std.proofs.Common.{refl, subst, rules, List, ℕ}
use Rattle.std.specs.Ordering.{nat_cmp}
use Rattle.examples.specs.Editing.{Changed}
use Rattle.examples.proofs.Numbers.{numbers_stand, sets_changed}
use Rattle.examples.proofs.editing.set.Goals as goal

pub at-map-requires : goal.at-map-requires
at-map-requires c = numbers_stand c.args.buf.now c.args.pos c.requires.0 c.requires.1

pub returns : goal.returns
returns c m is =
    let changed = sets_changed c.args.buf.now _ c.args.pos c.args.key c.args.value c.set_by.result m c.ranges.value.fits is (rw (c.at-map.ensures.buffer, c.at-map.ensures.position) at (c.set_by.ensures.set nat_cmp (λ n b at. refl)).sets) in
    subst (λ (x : List ℕ). Changed c.args.buf.now x c.args.pos m c.args.key c.args.value c.set_by.result) (search rules) changed
