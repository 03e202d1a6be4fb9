use Rattle.std.proofs.Common.{◌≡◌, ℕ, ◌+◌, ◌*◌, ◌-◌, ◌≤◌, ◌<◌, min, ◌∙◌, [], ◌∷◌, ◌++◌, length, map, drop, arith, Some, ap, sym, subst}
use Rattle.std.specs.Prelude.{Result, Ok, Err, IsErrAnd, IfOk}
use Rattle.std.proofs.lemmas.List.{map_push}
use Rattle.std.proofs.lemmas.Result.{err_from_is_err_and}
use Rattle.rkyv_btree_format.specs.Layout.{layout_of}
use Rattle.rkyv_btree_shape.specs.Plan.{planned_alone}
use Rattle.rkyv_btree_writing_laws.specs.Entries.{now_of}
use Rattle.rkyv_btree_writing_laws.specs.Written.{ChildWritten, ChildStopped}
use Rattle.rkyv_btree_format.proofs.Sizes.{room_of}
use Rattle.rkyv_btree_shape.proofs.Alone.{alone_inner}
use Rattle.bench_recursion.proofs.Rows.{turn-inside, turn-rest, drop-push, take-push, length-pushed, less_on_last, some_item}
use Rattle.bench_recursion.proofs.RowsWritten.{row-more, row-stopped, last-stopped, inner-stopped, inner-written, turn-so-far, last-so-far, so-far-as}
use Rattle.rkyv_btree_archive.proofs.Numbers.{no_less_twice}
use Rattle.bench_recursion.proofs.tree.+write_child.Goals as goal

-- what a fault hands on promises nothing of a result
nothing_of_ok : {T F : Type 0} (r : Result T F) (P : T → Type 0) (Q : F → Type 0) → IsErrAnd r Q → IfOk r P
nothing_of_ok (Ok x) P Q h = absurd h
nothing_of_ok (Err e) P Q h = tt

-- what a number of entries bounds is a number of the machine
one_more_fits : (n : ℕ) → n ≤ 4294967295 → n + 1 < 18446744073709551616
one_more_fits n few = omega arith

up_to_fits : (m n : ℕ) → m ≤ n → n ≤ 4294967295 → m < 18446744073709551616
up_to_fits m n low few = omega arith

below_fits : (m n : ℕ) → m < n → n ≤ 4294967295 → m < 18446744073709551616
below_fits m n low few = omega arith

behind_fits : (m n : ℕ) → m < n → n ≤ 4294967295 → m + 1 < 18446744073709551616
behind_fits m n low few = omega arith

part_fits : (start m n : ℕ) → start + m < n → n ≤ 4294967295 → m < 18446744073709551616
part_fits start m n low few = omega arith

one_more : (m n : ℕ) → m ≤ n → m ≤ n + 1
one_more m n low = omega arith

behind : (m n : ℕ) → m ≤ m + n
behind m n = omega arith

taken_low : (taken rest full : ℕ) → taken ≡ min rest full → taken ≤ rest
taken_low taken rest full is = omega arith

-- after the last child that waits nothing more is to come
none_to_come : (n left first E : ℕ) → n + left ≡ first + E → left ≤ 0 → n ≡ first + E
none_to_come n left first E is none = omega arith

-- the part of a turn, and what a turn leaves
part_size : (start m : ℕ) → (start + m) - start ≡ m
part_size start m = omega arith

part_end : (start m : ℕ) → start + m ≡ start + ((start + m) - start)
part_end start m = omega arith

some_above : (m n : ℕ) → m < n → 0 < n
some_above m n low = omega arith

first_low : (n left first E : ℕ) → n + left ≡ first + E → left ≤ E → first ≤ n
first_low n left first E is low = omega arith

fewer_left : (left E : ℕ) → left ≤ E → left - 1 ≤ E
fewer_left left E low = omega arith

still_passed : (E start left m : ℕ) → 0 < left → E ≤ start + left → E ≤ start + m + 1 + (left - 1)
still_passed E start left m some before = omega arith

one_waits : (m n left first E : ℕ) → 0 < left → m ≡ n + 1 → n + left ≡ first + E → m + (left - 1) ≡ first + E
one_waits m n left first E some more is = omega arith

-- a level's entries find room, one after another, after those of the levels above
room_for_one : (E top below room0 room1 room2 start first n m left : ℕ) → first ≡ start → start + top ≤ room0 → below + E ≤ top → n + left ≡ first + E → 0 < left → room0 ≤ room1 → room1 ≤ room2 → m ≡ n → m < room2
room_for_one E top below room0 room1 room2 start first n m left begin room lower is some more0 more1 same = omega arith

pub overflow_add-on_last : goal.overflow_add-on_last
overflow_add-on_last g t c = record { fits = one_more_fits (length c.args.items.now) c.requires.count }

pub overflow_add-on_last-2 : goal.overflow_add-on_last-2
overflow_add-on_last-2 g t c = record { fits = behind_fits g.row.E (length c.args.items.now) c.in-Some.ensures.more c.requires.count }

pub overflow_mul-on_last : goal.overflow_mul-on_last
overflow_mul-on_last g t c = record { fits = up_to_fits (c.in-Some.base * (g.row.E + 1)) (length c.args.items.now) c.in-Some.ensures.below c.requires.count }

pub overflow_sub-on_last : goal.overflow_sub-on_last
overflow_sub-on_last g t c = one_more (c.in-Some.base * (g.row.E + 1)) (length c.args.items.now) c.in-Some.ensures.below

pub overflow_sub-end : goal.overflow_sub-end
overflow_sub-end g t c = c.in-Some.ensures.positive

pub overflow_add-end : goal.overflow_add-end
overflow_add-end g t c =
    let n = length c.args.items.now in
    let start = c.loop-left.start in
    let before = c.loop-left.invariant in
    let took = c.taken_by_child-taken.result in
    let few = taken_low took c.loop-left.on_last (g.row.E * c.in-Some.base) c.taken_by_child-taken.ensures in
    let inside = turn-inside n start c.loop-left.left c.in-Some.base c.loop-left.on_last took before.rest c.loop-left-test.true c.in-Some.ensures.positive few in
    record { fits = part_fits start (c.in-Some.base - 1 + took) n inside c.requires.count }

pub overflow_add-end-in-loop-left : goal.overflow_add-end-in-loop-left
overflow_add-end-in-loop-left g t c =
    let n = length c.args.items.now in
    let start = c.loop-left.start in
    let before = c.loop-left.invariant in
    let took = c.taken_by_child-taken.result in
    let few = taken_low took c.loop-left.on_last (g.row.E * c.in-Some.base) c.taken_by_child-taken.ensures in
    let inside = turn-inside n start c.loop-left.left c.in-Some.base c.loop-left.on_last took before.rest c.loop-left-test.true c.in-Some.ensures.positive few in
    record { fits = below_fits (start + (c.in-Some.base - 1 + took)) n inside c.requires.count }

pub slice_bounds-part-count : goal.slice_bounds-part-count
slice_bounds-part-count g t c = behind c.loop-left.start (c.in-Some.base - 1 + c.taken_by_child-taken.result)

pub overflow_sub-on_last-in-loop-left : goal.overflow_sub-on_last-in-loop-left
overflow_sub-on_last-in-loop-left g t c = taken_low c.taken_by_child-taken.result c.loop-left.on_last (g.row.E * c.in-Some.base) c.taken_by_child-taken.ensures

pub overflow_add-start : goal.overflow_add-start
overflow_add-start g t c =
    let n = length c.args.items.now in
    let start = c.loop-left.start in
    let before = c.loop-left.invariant in
    let took = c.taken_by_child-taken.result in
    let few = taken_low took c.loop-left.on_last (g.row.E * c.in-Some.base) c.taken_by_child-taken.ensures in
    let inside = turn-inside n start c.loop-left.left c.in-Some.base c.loop-left.on_last took before.rest c.loop-left-test.true c.in-Some.ensures.positive few in
    record { fits = behind_fits (start + (c.in-Some.base - 1 + took)) n inside c.requires.count }

pub write_above-requires-clause-waiting : goal.write_above-requires-clause-waiting
write_above-requires-clause-waiting g t c =
    ap length c.in_ok-last.ensures.kept.0
    ∙ none_to_come (length c.loop-left.waiting.items) c.loop-left.left c.len-first.result g.row.E c.loop-left.invariant.waiting_count c.loop-left-test.false

pub write_above-requires-clause-children : goal.write_above-requires-clause-children
write_above-requires-clause-children g t c =
    ap length c.in_ok-last.ensures.kept.1
    ∙ none_to_come (length c.loop-left.children.items) c.loop-left.left c.len-first_child.result g.row.E c.loop-left.invariant.child_count c.loop-left-test.false

pub returns-clause-last : goal.returns-clause-last
returns-clause-last g t c = λ _. c.in_ok-root.ensures.last

pub inner_base-requires-clause-some : goal.inner_base-requires-clause-some
inner_base-requires-clause-some g t c =
    let room = room_of _ _ g.row.E g.met.K.Portable.laws g.met.V.Portable.laws c.requires.fitting in
    room.some

pub inner_base-requires-clause-small : goal.inner_base-requires-clause-small
inner_base-requires-clause-small g t c =
    let room = room_of _ _ g.row.E g.met.K.Portable.laws g.met.V.Portable.laws c.requires.fitting in
    room.entries

pub returns-in_err-child-clause-err : goal.returns-in_err-child-clause-err
returns-in_err-child-clause-err g t c =
    let s = g.W.Writer.state c.args.writer.now in
    let E = g.row.E in
    let nodes = layout_of g.K.Portable.kind g.V.Portable.kind E in
    let own = now_of {M = g.row.KU.Denot} {N = g.row.VU.Denot} in
    let items = c.args.items.now in
    let room = room_of _ _ g.row.E g.met.K.Portable.laws g.met.V.Portable.laws c.requires.fitting in
    let base = c.in-Some.base in
    let start = c.loop-left.start in
    let before = c.loop-left.invariant in
    let inner_is = alone_inner E base own items room.some c.in-Some.ensures.more c.in-Some.ensures.value in
    let took = c.taken_by_child-taken.result in
    let end = start + (base - 1 + took) in
    let size = end - start in
    let few = taken_low took c.loop-left.on_last (g.row.E * base) c.taken_by_child-taken.ensures in
    let inside : end < length items = turn-inside (length items) start c.loop-left.left base c.loop-left.on_last took before.rest c.loop-left-test.true c.in-Some.ensures.positive few in
    let size_is = part_size start (base - 1 + took) in
    let p = err_from_is_err_and c.from_residual.result c.from_residual.ensures.1 in
    rw (p.1, p.2) (subst (λ z. ChildStopped nodes g.KU.Archive.archival g.VU.Archive.archival s z c.in_err-child.field-0.0 (g.W.Writer.state c.write_child.new.writer)) (sym inner_is)
    (row-stopped nodes g.KU.Archive.archival g.VU.Archive.archival
    (turn-so-far nodes g.KU.Archive.archival g.VU.Archive.archival own (planned_alone E) base (E * base) c.loop-left.on_last c.loop-left.left start size took end items (some_item items (some_above end (length items) inside)) c.loop-left-test.true c.taken_by_child-taken.ensures size_is (part_end start (base - 1 + took)) inside before.row)
    c.in_err-child.ensures.err))

pub loop-left-preserved : goal.loop-left-preserved
loop-left-preserved g t c =
    let E = g.row.E in
    let nodes = layout_of g.K.Portable.kind g.V.Portable.kind E in
    let own = now_of {M = g.row.KU.Denot} {N = g.row.VU.Denot} in
    let items = c.args.items.now in
    let base = c.in-Some.base in
    let start = c.loop-left.start in
    let before = c.loop-left.invariant in
    let took = c.taken_by_child-taken.result in
    let end = start + (base - 1 + took) in
    let size = end - start in
    let few = taken_low took c.loop-left.on_last (g.row.E * base) c.taken_by_child-taken.ensures in
    let inside : end < length items = turn-inside (length items) start c.loop-left.left base c.loop-left.on_last took before.rest c.loop-left-test.true c.in-Some.ensures.positive few in
    let size_is = part_size start (base - 1 + took) in
    let waiting_low = first_low (length c.loop-left.waiting.items) c.loop-left.left c.len-first.result E before.waiting_count before.left in
    let children_low = first_low (length c.loop-left.children.items) c.loop-left.left c.len-first_child.result E before.child_count before.left in
    let waiting_more : length c.wait.new.waiting.items ≡ length c.loop-left.waiting.items + 1 = length-pushed c.loop-left.waiting.items _ _ _ c.in_ok-child.ensures.kept.0 c.wait.ensures.waiting in
    let children_more : length c.wait.new.children.items ≡ length c.loop-left.children.items + 1 = length-pushed c.loop-left.children.items _ _ _ c.in_ok-child.ensures.kept.1 c.wait.ensures.children in
    record {
      row =
          let more = row-more nodes g.KU.Archive.archival g.VU.Archive.archival c.in_ok-child.child
          (turn-so-far nodes g.KU.Archive.archival g.VU.Archive.archival own (planned_alone E) base (E * base) c.loop-left.on_last c.loop-left.left start size took end items _ c.loop-left-test.true c.taken_by_child-taken.ensures size_is (part_end start (base - 1 + took)) inside before.row)
          c.in_ok-child.ensures.ok in
          so-far-as nodes g.KU.Archive.archival g.VU.Archive.archival more
          (ap (map own) (drop-push c.len-first.result c.loop-left.waiting.items c.wait.new.waiting.items _ _ waiting_low c.in_ok-child.ensures.kept.0 c.wait.ensures.waiting) ∙ map_push own _ _ ∙ ap (λ x. map own (drop c.len-first.result c.loop-left.waiting.items) ++ own x ∷ []) c.index-items-end.is)
          (drop-push c.len-first_child.result c.loop-left.children.items c.wait.new.children.items _ _ children_low c.in_ok-child.ensures.kept.1 c.wait.ensures.children);
      left = fewer_left c.loop-left.left E before.left;
      rest = turn-rest (length items) start c.loop-left.left base c.loop-left.on_last took before.rest c.loop-left-test.true c.in-Some.ensures.positive few;
      on_last = less_on_last c.loop-left.left c.loop-left.on_last (E * base) took c.taken_by_child-taken.ensures c.loop-left-test.true before.on_last;
      passed = still_passed E start c.loop-left.left (base - 1 + took) c.loop-left-test.true before.passed;
      waiting = take-push c.len-first.result c.loop-left.waiting.items c.wait.new.waiting.items _ _ _ waiting_low c.in_ok-child.ensures.kept.0 c.wait.ensures.waiting before.waiting;
      children = take-push c.len-first_child.result c.loop-left.children.items c.wait.new.children.items _ _ _ children_low c.in_ok-child.ensures.kept.1 c.wait.ensures.children before.children;
      waiting_count = one_waits _ _ c.loop-left.left c.len-first.result E c.loop-left-test.true waiting_more before.waiting_count;
      child_count = one_waits _ _ c.loop-left.left c.len-first_child.result E c.loop-left-test.true children_more before.child_count;
      free = c.in_ok-child.ensures.free;
      waiting_room = no_less_twice _ _ _ _ before.waiting_room c.in_ok-child.ensures.room.0 c.wait.ensures.room.0;
      child_room = no_less_twice _ _ _ _ before.child_room c.in_ok-child.ensures.room.1 c.wait.ensures.room.1;
    }

pub returns-in_err-last-clause-err : goal.returns-in_err-last-clause-err
returns-in_err-last-clause-err g t c =
    let s = g.W.Writer.state c.args.writer.now in
    let E = g.row.E in
    let nodes = layout_of g.K.Portable.kind g.V.Portable.kind E in
    let own = now_of {M = g.row.KU.Denot} {N = g.row.VU.Denot} in
    let items = c.args.items.now in
    let room = room_of _ _ g.row.E g.met.K.Portable.laws g.met.V.Portable.laws c.requires.fitting in
    let base = c.in-Some.base in
    let start = c.loop-left.start in
    let before = c.loop-left.invariant in
    let inner_is = alone_inner E base own items room.some c.in-Some.ensures.more c.in-Some.ensures.value in
    let so_far = last-so-far nodes g.KU.Archive.archival g.VU.Archive.archival own (planned_alone E) base (E * base) c.loop-left.on_last c.loop-left.left start items c.loop-left-test.false before.row in
    let p = err_from_is_err_and c.from_residual-in_err-last.result c.from_residual-in_err-last.ensures.1 in
    rw (p.1, p.2) (subst (λ z. ChildStopped nodes g.KU.Archive.archival g.VU.Archive.archival s z c.in_err-last.field-0.0 (g.W.Writer.state c.write_child-2.new.writer)) (sym inner_is)
    (last-stopped nodes g.KU.Archive.archival g.VU.Archive.archival so_far c.in_err-last.ensures.err))

pub returns-in_err-root-clause-err : goal.returns-in_err-root-clause-err
returns-in_err-root-clause-err g t c =
    let s = g.W.Writer.state c.args.writer.now in
    let E = g.row.E in
    let nodes = layout_of g.K.Portable.kind g.V.Portable.kind E in
    let own = now_of {M = g.row.KU.Denot} {N = g.row.VU.Denot} in
    let items = c.args.items.now in
    let room = room_of _ _ g.row.E g.met.K.Portable.laws g.met.V.Portable.laws c.requires.fitting in
    let base = c.in-Some.base in
    let start = c.loop-left.start in
    let before = c.loop-left.invariant in
    let inner_is = alone_inner E base own items room.some c.in-Some.ensures.more c.in-Some.ensures.value in
    let so_far = last-so-far nodes g.KU.Archive.archival g.VU.Archive.archival own (planned_alone E) base (E * base) c.loop-left.on_last c.loop-left.left start items c.loop-left-test.false before.row in
    let here = so-far-as nodes g.KU.Archive.archival g.VU.Archive.archival so_far
    (ap (λ xs. map own (drop c.len-first.result xs)) c.in_ok-last.ensures.kept.0) (ap (drop c.len-first_child.result) c.in_ok-last.ensures.kept.1) in
    let p = err_from_is_err_and c.from_residual-in_err-root.result c.from_residual-in_err-root.ensures.1 in
    rw (p.1, p.2) (subst (λ z. ChildStopped nodes g.KU.Archive.archival g.VU.Archive.archival s z c.in_err-root.field-0.0 (g.W.Writer.state c.write_above.new.writer)) (sym inner_is)
    (inner-stopped nodes g.KU.Archive.archival g.VU.Archive.archival c.in_ok-last.last here c.in_ok-last.ensures.ok c.in_err-root.ensures.err))

pub returns-clause-ok : goal.returns-clause-ok
returns-clause-ok g t c =
    let s = g.W.Writer.state c.args.writer.now in
    let E = g.row.E in
    let nodes = layout_of g.K.Portable.kind g.V.Portable.kind E in
    let own = now_of {M = g.row.KU.Denot} {N = g.row.VU.Denot} in
    let items = c.args.items.now in
    let room = room_of _ _ g.row.E g.met.K.Portable.laws g.met.V.Portable.laws c.requires.fitting in
    let base = c.in-Some.base in
    let start = c.loop-left.start in
    let before = c.loop-left.invariant in
    let inner_is = alone_inner E base own items room.some c.in-Some.ensures.more c.in-Some.ensures.value in
    let so_far = last-so-far nodes g.KU.Archive.archival g.VU.Archive.archival own (planned_alone E) base (E * base) c.loop-left.on_last c.loop-left.left start items c.loop-left-test.false before.row in
    let here = so-far-as nodes g.KU.Archive.archival g.VU.Archive.archival so_far
    (ap (λ xs. map own (drop c.len-first.result xs)) c.in_ok-last.ensures.kept.0) (ap (drop c.len-first_child.result) c.in_ok-last.ensures.kept.1) in
    subst (λ z. ChildWritten nodes g.KU.Archive.archival g.VU.Archive.archival s z (Some c.in_ok-root.root) (g.W.Writer.state c.write_above.new.writer)) (sym inner_is)
    (inner-written nodes g.KU.Archive.archival g.VU.Archive.archival c.in_ok-last.last c.in_ok-root.root here c.in_ok-last.ensures.ok c.in_ok-root.ensures.ok)

pub wait-requires-clause-child_room : goal.wait-requires-clause-child_room
wait-requires-clause-child_room g t c =
    let before = c.loop-left.invariant in
    room_for_one g.row.E _ _ _ _ _ _ _ _ _ c.loop-left.left c.len-first_child.ensures c.requires.child_room c.child_is_lower.ensures.room before.child_count c.loop-left-test.true before.child_room c.in_ok-child.ensures.room.1
    (c.write_child.new.children.ok.0 ∙ ap length c.in_ok-child.ensures.kept.1)

pub bounds-items-end : goal.bounds-items-end
bounds-items-end g t c =
    let items = c.args.items.now in
    let base = c.in-Some.base in
    let start = c.loop-left.start in
    let before = c.loop-left.invariant in
    let took = c.taken_by_child-taken.result in
    let end = start + (base - 1 + took) in
    let few = taken_low took c.loop-left.on_last (g.row.E * base) c.taken_by_child-taken.ensures in
    let inside : end < length items = turn-inside (length items) start c.loop-left.left base c.loop-left.on_last took before.rest c.loop-left-test.true c.in-Some.ensures.positive few in
    inside

pub wait-requires-clause-waiting_room : goal.wait-requires-clause-waiting_room
wait-requires-clause-waiting_room g t c =
    let before = c.loop-left.invariant in
    room_for_one g.row.E _ _ _ _ _ _ _ _ _ c.loop-left.left c.len-first.ensures c.requires.waiting_room c.child_is_lower.ensures.room before.waiting_count c.loop-left-test.true before.waiting_room c.in_ok-child.ensures.room.0
    (c.write_child.new.waiting.ok.0 ∙ ap length c.in_ok-child.ensures.kept.0)

pub inner_base-requires-clause-fits : goal.inner_base-requires-clause-fits
inner_base-requires-clause-fits g t c = c.requires.count

pub write_few-requires-clause-fitting : goal.write_few-requires-clause-fitting
write_few-requires-clause-fitting g t c = c.requires.fitting

pub write_few-requires-clause-few : goal.write_few-requires-clause-few
write_few-requires-clause-few g t c = c.in_default.ensures.leaf

pub write_few-requires-clause-free : goal.write_few-requires-clause-free
write_few-requires-clause-free g t c = c.requires.free

pub returns-in_default-clause-ok : goal.returns-in_default-clause-ok
returns-in_default-clause-ok g t c = c.write_few.ensures.ok

pub returns-in_default-clause-err : goal.returns-in_default-clause-err
returns-in_default-clause-err g t c = c.write_few.ensures.err

pub returns-in_default-clause-last : goal.returns-in_default-clause-last
returns-in_default-clause-last g t c = c.write_few.ensures.last

pub returns-in_default-clause-free : goal.returns-in_default-clause-free
returns-in_default-clause-free g t c = c.write_few.ensures.free

pub child_is_lower-requires-clause-some : goal.child_is_lower-requires-clause-some
child_is_lower-requires-clause-some g t c =
    let room = room_of _ _ g.row.E g.met.K.Portable.laws g.met.V.Portable.laws c.requires.fitting in
    room.some

pub child_is_lower-requires-clause-more : goal.child_is_lower-requires-clause-more
child_is_lower-requires-clause-more g t c = c.in-Some.ensures.more

pub child_is_lower-requires-clause-base : goal.child_is_lower-requires-clause-base
child_is_lower-requires-clause-base g t c = c.in-Some.ensures.value

pub child_is_lower-requires-2-clause-some : goal.child_is_lower-requires-2-clause-some
child_is_lower-requires-2-clause-some g t c =
    let room = room_of _ _ g.row.E g.met.K.Portable.laws g.met.V.Portable.laws c.requires.fitting in
    room.some

pub child_is_lower-requires-2-clause-more : goal.child_is_lower-requires-2-clause-more
child_is_lower-requires-2-clause-more g t c = c.in-Some.ensures.more

pub child_is_lower-requires-2-clause-base : goal.child_is_lower-requires-2-clause-base
child_is_lower-requires-2-clause-base g t c = c.in-Some.ensures.value

pub overflow_sub-left : goal.overflow_sub-left
overflow_sub-left g t c = c.loop-left-test.true

pub write_above-requires-clause-fitting : goal.write_above-requires-clause-fitting
write_above-requires-clause-fitting g t c = c.requires.fitting

pub write_above-requires-clause-free : goal.write_above-requires-clause-free
write_above-requires-clause-free g t c = c.in_ok-last.ensures.free

pub returns-in_err-child-clause-ok : goal.returns-in_err-child-clause-ok
returns-in_err-child-clause-ok g t c = nothing_of_ok c.from_residual.result _ _ c.from_residual.ensures.1

pub returns-in_err-child-clause-last : goal.returns-in_err-child-clause-last
returns-in_err-child-clause-last g t c = nothing_of_ok c.from_residual.result _ _ c.from_residual.ensures.1

pub returns-in_err-child-clause-free : goal.returns-in_err-child-clause-free
returns-in_err-child-clause-free g t c = nothing_of_ok c.from_residual.result _ _ c.from_residual.ensures.1

pub returns-in_err-child-clause-kept : goal.returns-in_err-child-clause-kept
returns-in_err-child-clause-kept g t c = nothing_of_ok c.from_residual.result _ _ c.from_residual.ensures.1

pub returns-in_err-child-clause-room : goal.returns-in_err-child-clause-room
returns-in_err-child-clause-room g t c = nothing_of_ok c.from_residual.result _ _ c.from_residual.ensures.1

pub returns-in_err-last-clause-ok : goal.returns-in_err-last-clause-ok
returns-in_err-last-clause-ok g t c = nothing_of_ok c.from_residual-in_err-last.result _ _ c.from_residual-in_err-last.ensures.1

pub returns-in_err-last-clause-last : goal.returns-in_err-last-clause-last
returns-in_err-last-clause-last g t c = nothing_of_ok c.from_residual-in_err-last.result _ _ c.from_residual-in_err-last.ensures.1

pub returns-in_err-last-clause-free : goal.returns-in_err-last-clause-free
returns-in_err-last-clause-free g t c = nothing_of_ok c.from_residual-in_err-last.result _ _ c.from_residual-in_err-last.ensures.1

pub returns-in_err-last-clause-kept : goal.returns-in_err-last-clause-kept
returns-in_err-last-clause-kept g t c = nothing_of_ok c.from_residual-in_err-last.result _ _ c.from_residual-in_err-last.ensures.1

pub returns-in_err-last-clause-room : goal.returns-in_err-last-clause-room
returns-in_err-last-clause-room g t c = nothing_of_ok c.from_residual-in_err-last.result _ _ c.from_residual-in_err-last.ensures.1

pub returns-in_err-root-clause-ok : goal.returns-in_err-root-clause-ok
returns-in_err-root-clause-ok g t c = nothing_of_ok c.from_residual-in_err-root.result _ _ c.from_residual-in_err-root.ensures.1

pub returns-in_err-root-clause-last : goal.returns-in_err-root-clause-last
returns-in_err-root-clause-last g t c = nothing_of_ok c.from_residual-in_err-root.result _ _ c.from_residual-in_err-root.ensures.1

pub returns-in_err-root-clause-free : goal.returns-in_err-root-clause-free
returns-in_err-root-clause-free g t c = nothing_of_ok c.from_residual-in_err-root.result _ _ c.from_residual-in_err-root.ensures.1

pub returns-in_err-root-clause-kept : goal.returns-in_err-root-clause-kept
returns-in_err-root-clause-kept g t c = nothing_of_ok c.from_residual-in_err-root.result _ _ c.from_residual-in_err-root.ensures.1

pub returns-in_err-root-clause-room : goal.returns-in_err-root-clause-room
returns-in_err-root-clause-room g t c = nothing_of_ok c.from_residual-in_err-root.result _ _ c.from_residual-in_err-root.ensures.1

pub returns-clause-err : goal.returns-clause-err
returns-clause-err g t c = tt

pub returns-clause-free : goal.returns-clause-free
returns-clause-free g t c = c.in_ok-root.ensures.free
