use Rattle.std.proofs.Common.{◌≡◌, ℕ, ◌+◌, ◌≤◌, ◌∙◌, length, ap, sym, arith}
use Rattle.bench_recursion.proofs.build.write_items.Goals as goal

-- after nothing
room_alone : (len count room : ℕ) → len ≡ 0 → count ≤ room → len + count ≤ room
room_alone len count room none low = omega arith

pub returns-clause-ok : goal.returns-clause-ok
returns-clause-ok g c = rw (sym c.deref.ensures.value) c.write_child.ensures.ok

pub returns-clause-err : goal.returns-clause-err
returns-clause-err g c = rw (sym c.deref.ensures.value) c.write_child.ensures.err

pub write_child-requires-clause-fitting : goal.write_child-requires-clause-fitting
write_child-requires-clause-fitting g c = c.requires.fitting

pub write_child-requires-clause-count : goal.write_child-requires-clause-count
write_child-requires-clause-count g c = rw c.deref.ensures.value c.requires.count

pub write_child-requires-clause-free : goal.write_child-requires-clause-free
write_child-requires-clause-free g c = c.requires.free

pub write_child-requires-clause-waiting_room : goal.write_child-requires-clause-waiting_room
write_child-requires-clause-waiting_room g c = rw c.deref.ensures.value (room_alone _ _ _ (c.args.lists.waiting.ok.0 ∙ ap length c.requires.waiting.empty) c.requires.waiting.room)

pub write_child-requires-clause-child_room : goal.write_child-requires-clause-child_room
write_child-requires-clause-child_room g c = rw c.deref.ensures.value (room_alone _ _ _ (c.args.lists.children.ok.0 ∙ ap length c.requires.children.empty) c.requires.children.room)
