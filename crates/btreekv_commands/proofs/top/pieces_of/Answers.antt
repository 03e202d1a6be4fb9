-- The parts are sorted before they are joined.
use Rattle.std.proofs.Common.{rules, ◌∙◌, ap}
use Rattle.std.proofs.lemmas.Result.{IfOk-weaker}
use Rattle.std.proofs.lemmas.List.Sorted.{IsNonDecreasingBy-from_sort_by_key}
use Rattle.btreekv_commands.specs.mirror.Levels.{joined}
use Rattle.btreekv_commands.proofs.TopPieces.{are_pieces}
use Rattle.btreekv_commands.proofs.top.pieces_of.Goals as goal

pub returns-in-Ok-clause-ok : goal.returns-in-Ok-clause-ok
returns-in-Ok-clause-ok c =
    IfOk-weaker c.joined.result _ _
    (λ pieces made. are_pieces c.args.archive.now c.requires.archive.0 c.args.levels c.sort_by_key.new.self.items pieces.items c.requires.archive.1
    (rw c.in_ok-parts.ensures.ok at c.in-Ok.ensures.permutation)
    (IsNonDecreasingBy-from_sort_by_key (λ p. p.lo) _ c.in-Ok.ensures.sorted (λ a r q k. search rules))
    (made ∙ ap joined c.deref.ensures.value))
    c.joined.ensures.ok
