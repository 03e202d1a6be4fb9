-- The members of the object are the entries of the archive.
use Rattle.std.proofs.Common.{map}
use Rattle.btreekv_commands.specs.JsonObjects.{IsJsonObject}
use Rattle.btreekv_commands.specs.Opening.{KeysIncrease}
use Rattle.btreekv_commands.specs.Texts.{texts_of}
use Rattle.btreekv_commands.proofs.ObjectsBuilt.{builds, fails}
use Rattle.btreekv_commands.proofs.program.build_json.Goals as goal

pub returns-clause-ok : goal.returns-clause-ok
returns-clause-ok c =
    let entries = map texts_of c.in-Some.entries.items in
    let is : IsJsonObject c.args.text.now entries = rw c.in-Some.is at c.in_ok-entries.ensures.some in
    let increase : KeysIncrease entries = rw c.in-Some.is at c.in_ok-entries.ensures.increase in
    builds c.args.heading c.args.text.now entries is increase c.sorted_archive.result c.sorted_archive.ensures.ok

pub returns-clause-err : goal.returns-clause-err
returns-clause-err c =
    let entries = map texts_of c.in-Some.entries.items in
    let is : IsJsonObject c.args.text.now entries = rw c.in-Some.is at c.in_ok-entries.ensures.some in
    let increase : KeysIncrease entries = rw c.in-Some.is at c.in_ok-entries.ensures.increase in
    fails c.args.heading c.args.text.now entries is increase c.sorted_archive.result c.sorted_archive.ensures.err
