-- What the text is read as has these members.
use Rattle.std.proofs.lemmas.Result.{IfOk-weaker}
use Rattle.btreekv_commands.proofs.ObjectsRead.{are_members, is_object, none_so, some_so}
use Rattle.btreekv_commands.proofs.json_objects.parse_object.Goals as goal

pub returns-in-Ok-Object-clause-some : goal.returns-in-Ok-Object-clause-some
returns-in-Ok-Object-clause-some c = IfOk-weaker c.entries_of.result _ _ (λ found. some_so found _ _ (is_object c.args.text.now c.in-Ok-Object.field-0 c.in-Ok-Object.members c.in-Ok-Object.field-0-is c.in-Ok-Object.ensures.ok)) (rw c.in-Ok-Object.members-is at c.entries_of.ensures.some)

pub returns-in-Ok-Object-clause-none : goal.returns-in-Ok-Object-clause-none
returns-in-Ok-Object-clause-none c =
    IfOk-weaker c.entries_of.result _ _ (λ found. none_so found _ _ (are_members c.args.text.now c.in-Ok-Object.field-0 c.in-Ok-Object.members c.in-Ok-Object.field-0-is c.in-Ok-Object.ensures.ok)) (rw c.in-Ok-Object.members-is at c.entries_of.ensures.none)
