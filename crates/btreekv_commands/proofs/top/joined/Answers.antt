-- Nothing comes later.
use Rattle.std.proofs.Common.{◌≡◌, ◌++◌, [], ap, sym, take, ◌∙◌, arith}
use Rattle.std.proofs.lemmas.List.{append-nil, take_all}
use Rattle.btreekv_commands.specs.mirror.Levels.{joined, joined_to}
use Rattle.btreekv_commands.proofs.top.joined.Goals as goal

pub returns-clause-ok : goal.returns-clause-ok
returns-clause-ok c =
    let rest = c.in-Some.rest.now in
    let all : take c.parts.part-index rest ++ [] ≡ rest = append-nil (take c.parts.part-index rest) ∙ take_all c.parts.part-index rest (omega arith) in
    c.in_ok-push-2.ensures.ok ∙ (c.parts.invariant [] ∙ (ap (joined_to c.in-Some.first.now) all ∙ ap joined (sym c.in-Some.ensures.cases.0)))
