use Rattle.btreekv_commands.proofs.records.record_entry.Goals as goal

pub returns-in-Escaped-clause-some : goal.returns-in-Escaped-clause-some
returns-in-Escaped-clause-some c = rw c.in-Escaped.is c.escaped_entry.ensures.some

pub returns-in-Escaped-clause-none : goal.returns-in-Escaped-clause-none
returns-in-Escaped-clause-none c = rw c.in-Escaped.is c.escaped_entry.ensures.none

pub returns-in-Null-clause-some : goal.returns-in-Null-clause-some
returns-in-Null-clause-some c = rw c.in-Null.is c.plain_entry.ensures.some

pub returns-in-Null-clause-none : goal.returns-in-Null-clause-none
returns-in-Null-clause-none c = rw c.in-Null.is c.plain_entry.ensures.none

pub returns-in-Json-clause-some : goal.returns-in-Json-clause-some
returns-in-Json-clause-some c = rw c.in-Json.is c.json_entry.ensures.some

pub returns-in-Json-clause-none : goal.returns-in-Json-clause-none
returns-in-Json-clause-none c = rw c.in-Json.is c.json_entry.ensures.none
