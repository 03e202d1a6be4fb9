-- The lookups find what std's lookup finds, name by name.
use Rattle.std.proofs.Common.{◌∙◌, ◌++◌, ap, map, refl, sym}
use Rattle.std.proofs.lemmas.List.{append-nil}
use Rattle.std.specs.Cmp.Lexicographic.{slice_cmp}
use Rattle.std.specs.Ordering.{nat_cmp}
use Rattle.examples.proofs.many.prices_of.Goals as goal
use mathlib.Core.Path.{fun_ext}

pub returns : goal.returns
returns c =
    sym (append-nil c.loop-price.found.items)
    ∙ ap (λ rest. c.loop-price.found.items ++ rest) (sym c.in-None.ensures.steps.0)
    ∙ c.loop-price.invariant
    ∙ ap (λ f. map f c.args.names.now) (fun_ext (λ name. c.get_many_by-price-items.ensures.each name (λ n. slice_cmp nat_cmp n.now) (λ n b at. refl)))
