-- On an archive that the program opens it is what the command writes that reads all of it.
use Rattle.std.proofs.Common.{◌∙◌, refl}
use Rattle.btreekv_commands.proofs.Ranging.{range_outputs}
use Rattle.btreekv_commands.proofs.ranged.range_in.Goals as goal

pub returns-in-Ok-clause-ok : goal.returns-in-Ok-clause-ok
returns-in-Ok-clause-ok g c b known place = record {
  archived = λ entries is. range_outputs b c.args.map.pos place c.args.form _ entries is c.args.low.now c.args.high.now _ _
      c.as_str.ensures.value c.as_str-2.ensures.value (c.in-Ok.ensures.between b known) (c.in-Ok.ensures.writes b known ∙ rw c.new-text.ensures.items refl);
}
