-- A value is brought after the key, which stays valid where it is.
use Rattle.std.proofs.Common.{◌∙◌, ◌+◌, ◌≤◌, ap, arith, length, sym, IsTrue, subst}
use Rattle.std.proofs.lemmas.List.{length-append, length-take-le}
use Rattle.rkyv_btree_format.proofs.Sizes.{room_of}
use Rattle.rkyv_btree_portable.specs.Views.{stands}
use Rattle.rkyv_btree_source.proofs.Inside.{key_inside, value_inside}
use Rattle.rkyv_btree_source.proofs.Knowing.{of_same}
use Rattle.rkyv_btree_source.proofs.Walks.{back_of, front_of, kept_front, value_room}
use Rattle.rkyv_btree_source.proofs.walk.bring_entry.Goals as goal

pub fetch_part-requires-clause-fitting : goal.fetch_part-requires-clause-fitting
fetch_part-requires-clause-fitting g c = (room_of _ _ _ g.met.K.Portable.laws g.met.V.Portable.laws c.requires.fitting).key

pub fetch_part-requires-clause-inside : goal.fetch_part-requires-clause-inside
fetch_part-requires-clause-inside g c =
    let there = key_inside g.K.Portable.kind g.V.Portable.kind g.M.ArchivedMap.E g.met.K.Portable.laws g.met.V.Portable.laws c.requires.fitting c.args.index c.requires.within in
    let count = length-take-le c.args.len c.args.page.now c.requires.page in
    omega (arith, there, c.key_at-key_at.ensures, c.requires.leaf, c.read.auto.part, count)

pub split_at_mut-rest-requires : goal.split_at_mut-rest-requires
split_at_mut-rest-requires g c = let room = value_room g.met.K.Portable.laws c.fetch_part.new.room c.in-Ok-fetch_part.key c.in-Ok-fetch_part.ensures.valid in omega (arith, room, c.size.ensures)

pub fetch_part-requires-2-clause-fitting : goal.fetch_part-requires-2-clause-fitting
fetch_part-requires-2-clause-fitting g c = (room_of _ _ _ g.met.K.Portable.laws g.met.V.Portable.laws c.requires.fitting).value

pub fetch_part-requires-2-clause-inside : goal.fetch_part-requires-2-clause-inside
fetch_part-requires-2-clause-inside g c =
    let there = value_inside g.K.Portable.kind g.V.Portable.kind g.M.ArchivedMap.E g.met.K.Portable.laws g.met.V.Portable.laws c.requires.fitting c.args.index c.requires.within in
    let count = length-take-le c.args.len c.args.page.now c.requires.page in
    omega (arith, there, c.value_at-value_at.ensures, c.requires.leaf, c.read.auto.part, count)

pub returns-in-Ok-fetch_part-2-clause-held : goal.returns-in-Ok-fetch_part-2-clause-held
returns-in-Ok-fetch_part-2-clause-held g c =
    let room = value_room g.met.K.Portable.laws c.fetch_part.new.room c.in-Ok-fetch_part.key c.in-Ok-fetch_part.ensures.valid in
    let cut = c.in-Ok-fetch_part.key + c.size.result in
    let le : cut ≤ length c.fetch_part.new.room = omega (arith, room, c.size.ensures) in
    let kept = kept_front g.met.K.Portable.laws c.fetch_part.new.room c.in-Ok-fetch_part.key c.in-Ok-fetch_part.ensures.valid cut (omega (arith, c.size.ensures)) le in
    let front = c.split_at_mut-rest.result.0.now in
    let back = c.fetch_part-2.new.room in
    record {
      cut = omega (arith, length-append front back, c.split_at_mut-rest.ensures.front_len);
      key = subst (λ l. IsTrue (stands g.K.Portable.kind l c.in-Ok-fetch_part.key)) (sym (front_of front back cut c.split_at_mut-rest.ensures.front_len ∙ c.split_at_mut-rest.ensures.front)) kept.0;
      value = subst (λ l. IsTrue (stands g.V.Portable.kind l c.in-Ok-fetch_part-2.value)) (sym (back_of front back cut c.split_at_mut-rest.ensures.front_len)) c.in-Ok-fetch_part-2.ensures.valid;
    }

pub returns-in-Ok-fetch_part-2-clause-brings : goal.returns-in-Ok-fetch_part-2-clause-brings
returns-in-Ok-fetch_part-2-clause-brings g c b e =
    let room = value_room g.met.K.Portable.laws c.fetch_part.new.room c.in-Ok-fetch_part.key c.in-Ok-fetch_part.ensures.valid in
    let cut = c.in-Ok-fetch_part.key + c.size.result in
    let le : cut ≤ length c.fetch_part.new.room = omega (arith, room, c.size.ensures) in
    let kept = kept_front g.met.K.Portable.laws c.fetch_part.new.room c.in-Ok-fetch_part.key c.in-Ok-fetch_part.ensures.valid cut (omega (arith, c.size.ensures)) le in
    let front = c.split_at_mut-rest.result.0.now in
    let back = c.fetch_part-2.new.room in
    let key = c.in-Ok-fetch_part.ensures.brings b (of_same b c.in-Ok.ensures.same e) in
    let value = c.in-Ok-fetch_part-2.ensures.brings b (of_same b c.in-Ok-fetch_part.ensures.same (of_same b c.in-Ok.ensures.same e)) in
    let key_is = ap (λ x. c.args.node + x) c.key_at-key_at.ensures in
    let value_is = ap (λ x. c.args.node + x) c.value_at-value_at.ensures in
    record {
      stands = record {
        key = subst (λ x. IsTrue (stands g.K.Portable.kind b x)) key_is key.0;
        value = subst (λ x. IsTrue (stands g.V.Portable.kind b x)) value_is value.0;
      };
      key = ap (λ l. g.K.Portable.kind.read l c.in-Ok-fetch_part.key) (front_of front back cut c.split_at_mut-rest.ensures.front_len ∙ c.split_at_mut-rest.ensures.front) ∙ kept.1 ∙ key.1 ∙ ap (λ x. g.K.Portable.kind.read b x) key_is;
      value = ap (λ l. g.V.Portable.kind.read l c.in-Ok-fetch_part-2.value) (back_of front back cut c.split_at_mut-rest.ensures.front_len) ∙ value.1 ∙ ap (λ x. g.V.Portable.kind.read b x) value_is;
    }

pub returns-in-Err-NoRoom-clause-caused : goal.returns-in-Err-NoRoom-clause-caused
returns-in-Err-NoRoom-clause-caused g c =
    let there = key_inside g.K.Portable.kind g.V.Portable.kind g.M.ArchivedMap.E g.met.K.Portable.laws g.met.V.Portable.laws c.requires.fitting c.args.index c.requires.within in
    let count = length-take-le c.args.len c.args.page.now c.requires.page in
    let near = c.in-Ok-fetch_part.ensures.near in
    let short = rw c.in-Err-NoRoom.field-0-is at c.in-Err-NoRoom.ensures.caused in
    let more = short.0 in
    let most = short.2 in
    let front = c.split_at_mut-rest.ensures.front_len in
    let back = c.split_at_mut-rest.ensures.back_len in
    let sum = c.saturating_add.ensures in (
      omega (arith, more, front, back, sum, c.size.ensures, c.in-Err-NoRoom.needed-is, c.fetch_part.auto.room),
      omega (arith, sum),
      omega (arith, most, there, count, near, sum, c.size.ensures, c.key_at-key_at.ensures, c.requires.leaf, c.requires.small, c.in-Err-NoRoom.needed-is, c.read.auto.part),
    )
