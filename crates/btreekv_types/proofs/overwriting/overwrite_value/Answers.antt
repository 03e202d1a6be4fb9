-- The native key is sought, and the native value written.
use Rattle.std.proofs.Common.{◌≡◌, ◌∙◌, List, ℕ, sym}
use Rattle.btreekv_types.proofs.Meant.{key_meant, key_text_meant}
use Rattle.btreekv_types.proofs.Overwritten.{puts_text}
use Rattle.btreekv_types.proofs.Shown.{compared_so}
use Rattle.btreekv_types.proofs.overwriting.overwrite_value.Goals as goal

pub returns-in-Ok-None-write_over-clause-ok : goal.returns-in-Ok-None-write_over-clause-ok
returns-in-Ok-None-write_over-clause-ok g c = λ key_to value_to keys values maps.
    let K = g.K.Portable.kind in
    let word : g.K.Item.spelling c.args.style (g.K.Item.native_value c.in-Ok-Some.key) ≡ c.args.key.now = rw c.in-Ok-Some.field-0-is at c.in-Ok-Some.ensures.text in
    let is_key : g.K.Item.IsValue (g.K.Item.native_value c.in-Ok-Some.key) = rw c.in-Ok-Some.field-0-is at c.in-Ok-Some.ensures.value in
    let none = (rw c.in-Ok-None-write_over.field-0-is at c.in-Ok-None-write_over.ensures.none) (λ (n : g.row.K-Native.Denot) (k : K.Value). K.order (keys.same.to (g.K.Native.Archive.archival.meaning n)) k) (λ n b at. compared_so key_to keys n b at) in (
      record {
        entries = none.0.0;
        file = ((c.in-Ok.heading, c.in-Ok.ensures.ok), none.0.1);
        asked = keys.same.to (g.K.Native.Archive.archival.meaning c.in-Ok-Some.key);
        is_key = (
          key_meant key_to value_to keys values g.K.Item.IsValue (g.K.Item.spelling c.args.style) g.V.Item.IsValue (g.V.Item.spelling c.args.style) c.in-Ok-Some.key is_key,
          key_text_meant key_to value_to keys values g.K.Item.IsValue (g.K.Item.spelling c.args.style) g.V.Item.IsValue (g.V.Item.spelling c.args.style) c.in-Ok-Some.key _ word,
        );
        none = none.1;
      },
      rw c.in-Ok-None-write_over.field-0-is at c.in-Ok-None-write_over.ensures.absent,
    )

pub returns-then-keeps_heading-clause-ok : goal.returns-then-keeps_heading-clause-ok
returns-then-keeps_heading-clause-ok g c = λ key_to value_to keys values maps.
    let K = g.K.Portable.kind in
    let own : List ℕ = g.V.InPlace.in_place.own_bytes c.own.result in
    let word : g.K.Item.spelling c.args.style (g.K.Item.native_value c.in-Ok-Some.key) ≡ c.args.key.now = rw c.in-Ok-Some.field-0-is at c.in-Ok-Some.ensures.text in
    let is_key : g.K.Item.IsValue (g.K.Item.native_value c.in-Ok-Some.key) = rw c.in-Ok-Some.field-0-is at c.in-Ok-Some.ensures.value in
    let text : g.V.Item.spelling c.args.style (g.V.Item.native_value c.in-Ok-Some-native_of.value) ≡ c.args.value.now = rw c.in-Ok-Some-native_of.field-0-is at c.in-Ok-Some-native_of.ensures.text in
    let is_value : g.V.Item.IsValue (g.V.Item.native_value c.in-Ok-Some-native_of.value) = rw c.in-Ok-Some-native_of.field-0-is at c.in-Ok-Some-native_of.ensures.value in
    let size = rw c.in-Ok-Some-write_over.field-0-is at c.in-Ok-Some-write_over.ensures.size in
    let puts = (rw c.in-Ok-Some-write_over.field-0-is at c.in-Ok-Some-write_over.ensures.some) (λ (n : g.row.K-Native.Denot) (k : K.Value). K.order (keys.same.to (g.K.Native.Archive.archival.meaning n)) k) (λ n b at. compared_so key_to keys n b at) in
    record {
      heading = c.in-Ok.heading;
      headed = c.in-Ok.ensures.ok;
      stays = c.keeps_heading.ensures.yes c.if-keeps_heading.true;
      puts = puts_text key_to value_to keys values _ g.K.Item.IsValue (g.K.Item.spelling c.args.style) g.V.Item.IsValue (g.V.Item.spelling c.args.style) _ _ _ c.in-Ok-Some.key c.in-Ok-Some-native_of.value own _ _ _ is_key word is_value text c.own.ensures ((g.met.V.InPlace.is_in_place.written c.own.result).size ∙ sym size) puts;
    }

pub returns-clause-err : goal.returns-clause-err
returns-clause-err g c = λ key_to value_to keys values maps.
    let K = g.K.Portable.kind in
    let own : List ℕ = g.V.InPlace.in_place.own_bytes c.own.result in
    let word : g.K.Item.spelling c.args.style (g.K.Item.native_value c.in-Ok-Some.key) ≡ c.args.key.now = rw c.in-Ok-Some.field-0-is at c.in-Ok-Some.ensures.text in
    let is_key : g.K.Item.IsValue (g.K.Item.native_value c.in-Ok-Some.key) = rw c.in-Ok-Some.field-0-is at c.in-Ok-Some.ensures.value in
    let text : g.V.Item.spelling c.args.style (g.V.Item.native_value c.in-Ok-Some-native_of.value) ≡ c.args.value.now = rw c.in-Ok-Some-native_of.field-0-is at c.in-Ok-Some-native_of.ensures.text in
    let is_value : g.V.Item.IsValue (g.V.Item.native_value c.in-Ok-Some-native_of.value) = rw c.in-Ok-Some-native_of.field-0-is at c.in-Ok-Some-native_of.ensures.value in
    let puts = (rw c.in-Ok-Some-write_over.field-0-is at c.in-Ok-Some-write_over.ensures.some) (λ (n : g.row.K-Native.Denot) (k : K.Value). K.order (keys.same.to (g.K.Native.Archive.archival.meaning n)) k) (λ n b at. compared_so key_to keys n b at) in
    record {
      heading = c.in-Ok.heading;
      headed = c.in-Ok.ensures.ok;
      start = c.in-Ok-Some-write_over.place.start;
      puts = puts_text key_to value_to keys values _ g.K.Item.IsValue (g.K.Item.spelling c.args.style) g.V.Item.IsValue (g.V.Item.spelling c.args.style) _ _ _ c.in-Ok-Some.key c.in-Ok-Some-native_of.value own _ _ _ is_key word is_value text c.own.ensures (g.met.V.InPlace.is_in_place.written c.own.result).size puts;
      reheaded = c.keeps_heading.ensures.no c.if-keeps_heading.false;
    }
