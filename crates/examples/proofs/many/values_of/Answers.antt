-- The lookups find what std's lookup finds, key by key.
use Rattle.std.proofs.Common.{◌∙◌, ◌++◌, ap, map, refl, sym}
use Rattle.std.proofs.lemmas.List.{append-nil}
use Rattle.std.specs.Ordering.{nat_cmp}
use Rattle.rkyv_btree.specs.ManyLeft.{lookups_left}
use Rattle.examples.proofs.many.values_of.Invariants.{compared_at}
use Rattle.examples.proofs.many.values_of.Goals as goal
use mathlib.Core.Path.{fun_ext}

pub loop-value-init : goal.loop-value-init
loop-value-init c = rw c.new-values.ensures.items (ap (lookups_left compared_at) c.into_iter-value-iterator.ensures.into_iter_gives ∙ c.get_many_by-value-items.ensures.left)

pub returns : goal.returns
returns c =
    sym (append-nil c.loop-value.values.items)
    ∙ ap (λ rest. c.loop-value.values.items ++ rest) (sym c.in-None.ensures.steps.0)
    ∙ c.loop-value.invariant
    ∙ ap (λ f. map f c.args.keys.now) (fun_ext (λ key. c.get_many_by-value-items.ensures.each key nat_cmp (λ n b at. refl)))
