use Rattle.std.proofs.Common.{◌≡◌, ◌∙◌, ◌+◌, ◌*◌, [], ◌∷◌, ◌++◌, length, ap, sym, refl, inl, inr, arith}
use Rattle.std.proofs.lemmas.List.{length_push}
use Rattle.std.proofs.lemmas.Result.{err_from_is_err_and}
use Rattle.rkyv_btree_format.specs.Layout.{layout_of, len_at}
use Rattle.rkyv_btree_writing_laws.specs.Image.{pointers_reach}
use Rattle.rkyv_btree_format.proofs.Sizes.{room_of}
use Rattle.rkyv_btree_archive.proofs.Pieces.{inner_put}
use Rattle.rkyv_btree_archive.proofs.Numbers.{no_more, ends_before}
use Rattle.rkyv_btree_archive.proofs.node_bytes.inner_into.Goals as goal

pub place_entries-requires-clause-count : goal.place_entries-requires-clause-count
place_entries-requires-clause-count g c = no_more _ _ c.requires.entries

pub place_entries-requires-clause-keys : goal.place_entries-requires-clause-keys
place_entries-requires-clause-keys g c = c.requires.keys ∙ sym c.requires.entries

pub place_entries-requires-clause-values : goal.place_entries-requires-clause-values
place_entries-requires-clause-values g c = c.requires.values ∙ sym c.requires.entries

pub place_entries-requires-clause-end : goal.place_entries-requires-clause-end
place_entries-requires-clause-end g c =
    let room = room_of _ _ g.row.E g.met.K.Portable.laws g.met.V.Portable.laws c.requires.fitting in
    ends_before c.args.pos _ _ 4294967295 room.parts.leaf c.requires.end

pub returns-in_err-place_entries-clause-err : goal.returns-in_err-place_entries-clause-err
returns-in_err-place_entries-clause-err g c =
    let p = err_from_is_err_and c.from_residual.result c.from_residual.ensures.1 in
    rw (p.1, p.2) (inl c.in_err-place_entries.ensures.err)

pub returns-in_err-place_entries-clause-key_room : goal.returns-in_err-place_entries-clause-key_room
returns-in_err-place_entries-clause-key_room g c = c.place_entries.ensures.key_room

pub returns-in_err-place_entries-clause-value_room : goal.returns-in_err-place_entries-clause-value_room
returns-in_err-place_entries-clause-value_room g c = c.place_entries.ensures.value_room

pub returns-clause-key_room : goal.returns-clause-key_room
returns-clause-key_room g c = c.place_entries.ensures.key_room

pub returns-clause-value_room : goal.returns-clause-value_room
returns-clause-value_room g c = c.place_entries.ensures.value_room

pub returns-clause-spent : goal.returns-clause-spent
returns-clause-spent g c = c.in_ok-place_entries.ensures.spent

pub place_entries-requires-clause-room : goal.place_entries-requires-clause-room
place_entries-requires-clause-room g c =
    let room = room_of _ _ g.row.E g.met.K.Portable.laws g.met.V.Portable.laws c.requires.fitting in
    omega (arith, room.parts, c.requires.size)

pub place_children-requires-clause-end : goal.place_children-requires-clause-end
place_children-requires-clause-end g c =
    let room = room_of _ _ g.row.E g.met.K.Portable.laws g.met.V.Portable.laws c.requires.fitting in
    omega (arith, room.parts, c.requires.children)

pub place_children-requires-clause-room : goal.place_children-requires-clause-room
place_children-requires-clause-room g c =
    let room = room_of _ _ g.row.E g.met.K.Portable.laws g.met.V.Portable.laws c.requires.fitting in
    omega (arith, c.place_entries.auto.node, c.requires.size, room.parts, c.requires.children, c.lesser_at-start.ensures)

pub returns-then-not-place_children-clause-err : goal.returns-then-not-place_children-clause-err
returns-then-not-place_children-clause-err g c =
    let nodes = layout_of g.K.Portable.kind g.V.Portable.kind g.row.E in
    let made = c.in_ok-place_entries.ensures.ok in
    let place : c.args.pos + len_at nodes ≡ c.args.pos + c.lesser_at-start.result = omega (arith, c.lesser_at-start.ensures) in
    inr (made.0, made.1, refl, ap (λ n. pointers_reach n (c.args.children.now ++ c.args.last ∷ [])) place ∙ (sym c.place_children.ensures.reach ∙ c.if-not-place_children.true))

pub returns-clause-ok : goal.returns-clause-ok
returns-clause-ok g c =
    let room = room_of _ _ g.row.E g.met.K.Portable.laws g.met.V.Portable.laws c.requires.fitting in
    let nodes = layout_of g.K.Portable.kind g.V.Portable.kind g.row.E in
    let made = c.in_ok-place_entries.ensures.ok in
    let size = c.requires.size in
    let place : c.args.pos + len_at nodes ≡ c.args.pos + c.lesser_at-start.result = omega (arith, c.lesser_at-start.ensures) in
    let count : length (c.args.children.now ++ c.args.last ∷ []) ≡ length c.args.children.now + 1 = length_push c.args.children.now c.args.last in (
      made.0,
      made.1,
      inner_put nodes made.0 c.args.pos c.lesser_at-start.result (c.lesser_at-start.result + 4 * length c.args.children.now + 4) (length c.args.node.now) (c.args.pos + c.lesser_at-start.result) (c.args.children.now ++ c.args.last ∷ []) c.place_entries.new.node c.place_children.new.node
          (omega (arith, c.lesser_at-start.ensures)) (sym place) size made.3 (omega (arith, count)) (omega (arith, room.parts, c.lesser_at-start.ensures, size, c.requires.children)) made.2 (c.place_children.ensures.items c.if-not-place_children.false),
      ap (λ n. pointers_reach n (c.args.children.now ++ c.args.last ∷ [])) place ∙ (sym c.place_children.ensures.reach ∙ c.if-not-place_children.false),
    )

pub returns-then-not-place_children-clause-key_room : goal.returns-then-not-place_children-clause-key_room
returns-then-not-place_children-clause-key_room g c = c.place_entries.ensures.key_room

pub returns-then-not-place_children-clause-value_room : goal.returns-then-not-place_children-clause-value_room
returns-then-not-place_children-clause-value_room g c = c.place_entries.ensures.value_room
