-- The check of the type, in the window of all bytes before, is that of the view.
use Rattle.std.proofs.Common.{refl, rules}
use Rattle.rkyv_btree_view.proofs.view.View.check.Goals as goal

pub at-requires : goal.at-requires
at-requires g c = search rules

pub returns-in-Ok-clause-position : goal.returns-in-Ok-clause-position
returns-in-Ok-clause-position g c = search rules

pub returns-in-Ok-clause-value : goal.returns-in-Ok-clause-value
returns-in-Ok-clause-value g c = search rules

pub returns-in-Ok-clause-accepts : goal.returns-in-Ok-clause-accepts
returns-in-Ok-clause-accepts g c =
    let is = c.in-Ok.ensures.ok in
    (λ ok. (is.0, record { left = _; means = is.1 }), λ value. refl)

pub returns-in-Ok-clause-refuses : goal.returns-in-Ok-clause-refuses
returns-in-Ok-clause-refuses g c = λ e. (λ is. absurd (cc is), search rules)

pub returns-in-Err-clause-accepts : goal.returns-in-Err-clause-accepts
returns-in-Err-clause-accepts g c = (λ ok. absurd (cc ok), λ value. let v = value.0 in let means = value.1 in search rules)

pub returns-in-Err-clause-refuses : goal.returns-in-Err-clause-refuses
returns-in-Err-clause-refuses g c = λ e. (λ is. search rules, λ refuses. search rules)
