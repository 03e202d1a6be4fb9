use Rattle.std.proofs.Common.{◌∙◌, map, string_bytes, sym, ap}
use Rattle.rkyv_btree_base.specs.Alike.{entry_meaning}
use Rattle.rkyv_btree_base.specs.Entries.{now_of}
use Rattle.rkyv_btree_base.specs.Archiving.{native_archival}
use Rattle.rkyv_btree_base.specs.Natives.{u32_form}
use Rattle.rkyv_btree_base.specs.TextArchival.{text_archival}
use Rattle.tests.proofs.Drained.{drained, columns}
use Rattle.tests.proofs.equal.write_both.Goals as goal

pub returns : goal.returns
returns g c =
    let made = c.in_ok-root.ensures.ok.written in
    let also = c.in_ok-place.ensures.ok.written in
    let mean = map (entry_meaning (text_archival string_bytes) (native_archival u32_form)) in
    let are = drained (λ e. e.rest.now) _ made.items made.all in
    let these = drained (λ e. e.rest.now) _ also.items also.all in
    let same = ap mean are ∙ (columns (λ e. string_bytes e.0) (λ e. e.1) c.args.first.now c.args.second.now c.requires.texts c.requires.numbers ∙ sym (ap mean these)) in
    let alike = c.trees_are_determined.ensures c.texts_are_determined.ensures c.natives_are_determined.ensures _ _ _ _ (map now_of made.items) (map now_of also.items) c.in_ok-root.root c.in_ok-place.place c.requires.at same made.built also.built in
    record { root = alike.0; bytes = alike.1 }
