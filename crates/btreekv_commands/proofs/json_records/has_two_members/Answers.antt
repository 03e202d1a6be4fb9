-- An object has as many members as its map.
use Rattle.std.proofs.Common.{nat_eq, ap, sym, ◌∙◌}
use Rattle.serde_json.specs.View.{view}
use Rattle.btreekv_commands.proofs.JsonEntries.{object_members}
use Rattle.btreekv_commands.proofs.json_records.has_two_members.Goals as goal

pub returns-in-Some : goal.returns-in-Some
returns-in-Some c =
    let many = object_members (view c.args.value.now) c.in-Some.members.now.entries (sym c.in-Some.ensures) in
    ap (λ n. nat_eq n 2) (c.len.ensures.len ∙ sym many)
