-- It is the first entry left that is compared.
use Rattle.std.proofs.Common.{◌∙◌, sym}
use Rattle.rkyv_btree_walk.proofs.Ranges.{first_test}
use Rattle.rkyv_btree_walk.proofs.range_ends.starts_past.Goals as goal

pub returns-in-Some-clause-past : goal.returns-in-Some-clause-past
returns-in-Some-clause-past g c f p =
    c.is_past.ensures.past f p ∙ first_test _ c.in-Some.first _ (sym c.in-Some.is ∙ c.first_left.ensures.first)
