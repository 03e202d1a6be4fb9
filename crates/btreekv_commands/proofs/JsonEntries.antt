-- How many members an object has, and when a line is no entry.
use Rattle.std.proofs.Common.{◌≡◌, suc, List, [], ◌∷◌, length, Some, refl, ap, ◌∙◌}
use Rattle.serde_json.specs.Data.{Data, null, boolean, number, string, array, object, Members}
use Rattle.serde_json.specs.Find.{as_object}
use Rattle.serde_json.specs.View.{members_view}
use Rattle.serde_json.specs.declared.value.Value.{Value}
use Rattle.std.specs.declared.alloc.Global.{Global}
use Rattle.std.specs.Prelude.{String}
use Rattle.btreekv_commands.specs.JsonRecords.{count_members, members_in}

counted : (ms : List (String Global × Value)) → count_members (members_view ms) ≡ length ms
counted [] = refl
counted (m ∷ ms) = ap suc (counted ms)

members_of : (d : Data) (ms : Members) → as_object d ≡ Some ms → members_in d ≡ count_members ms
members_of null ms e = absurd (cc e)
members_of (boolean b) ms e = absurd (cc e)
members_of (number n) ms e = absurd (cc e)
members_of (string s) ms e = absurd (cc e)
members_of (array ds) ms e = absurd (cc e)
members_of (object found) ms e = ap count_members (let same : found ≡ ms = cc e in same)

pub object_members : (d : Data) (ms : List (String Global × Value)) → as_object d ≡ Some (members_view ms) → members_in d ≡ length ms
object_members d ms e = members_of d (members_view ms) e ∙ counted ms
