-- The line is that of the text which the look-up finds.
use Rattle.btreekv_types.proofs.SoughtWords.{writes_found}
use Rattle.btreekv_types.proofs.sourced.line_of.Goals as goal

pub returns-in-Ok-value_line-clause-ok : goal.returns-in-Ok-value_line-clause-ok
returns-in-Ok-value_line-clause-ok g c b is =
    let finds = c.in-Ok.ensures.ok b is in
    writes_found _ _ _ _ _ _ _ b c.args.word.now c.args.form _ _ _ (rw c.as_str.ensures.value at finds) c.in-Ok-value_line.ensures.ok
