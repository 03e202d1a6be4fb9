use Rattle.std.proofs.Common.{arith}
use Rattle.std.specs.Prelude.{◌≢◌}
use Rattle.std.proofs.lemmas.List.Elements.{All-get_or}
use Rattle.std.proofs.lemmas.Str.Pattern.{split_after}
use Rattle.btreekv_items.proofs.pairs.at_comma.Goals as goal

pub returns-clause-first : goal.returns-clause-first
returns-clause-first c xs ys none e =
    split_after 44 c.args.text.now xs ys c.split_once.result c.split_once.ensures.cases (omega arith) e
    (λ i inside. All-get_or (λ byte. byte ≢ 44) xs i 0 inside none)
