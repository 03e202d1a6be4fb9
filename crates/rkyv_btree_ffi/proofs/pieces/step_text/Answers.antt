-- Texts and bytes have a call each.
use Rattle.std.proofs.Common.{◌≡◌, refl, subst, rules, List, ℕ}
use Rattle.rkyv_btree_ffi.specs.Entries.{by_text_at}
use Rattle.rkyv_btree_ffi.specs.MapTypes.{typed}
use Rattle.rkyv_btree_ffi.specs.Pieces.{StepsOf}
use Rattle.rkyv_btree_ffi.specs.declared.map_type.ItemType.TheVariants.{Text, Bytes}
use Rattle.rkyv_btree_ffi.proofs.Fits.{all_fit}
use Rattle.rkyv_btree_ffi.proofs.Stepped.{steps_of}
use Rattle.rkyv_btree_ffi.proofs.Types.{with_key}
use Rattle.rkyv_btree_ffi.proofs.pieces.step_text.Goals as goal

pub step_with-requires : goal.step_with-requires
step_with-requires c = all_fit Text c.args.map_type.value

pub returns-in-Text-Ok-clause-gives : goal.returns-in-Text-Ok-clause-gives
returns-in-Text-Ok-clause-gives c = λ b e.
    let t = typed Text c.args.map_type.value in
    let same : c.in-Text-Ok.key.now ≡ c.args.key.now = search rules in
    let gives = steps_of t b c.step_with.new.buffer (by_text_at Text c.in-Text-Ok.key.now) c.step_with.result (c.step_with.ensures.gives b e (λ n. by_text_at Text n.now) (λ n c at. refl)) in
    rw (with_key c.args.map_type Text c.in-Text-Ok.is-0) (subst (λ (text : List ℕ). StepsOf t b (by_text_at Text text) c.step_with.new.buffer c.step_with.result) same gives)

pub step_with-requires-in-Bytes-default : goal.step_with-requires-in-Bytes-default
step_with-requires-in-Bytes-default c = all_fit Bytes c.args.map_type.value

pub returns-in-Bytes-default-clause-gives : goal.returns-in-Bytes-default-clause-gives
returns-in-Bytes-default-clause-gives c = λ b e.
    let t = typed Bytes c.args.map_type.value in
    rw (with_key c.args.map_type Bytes c.in-Bytes-default.is-0) (steps_of t b c.step_with-in-Bytes-default.new.buffer (by_text_at Bytes c.args.key.now) c.step_with-in-Bytes-default.result (c.step_with-in-Bytes-default.ensures.gives b e (λ n. by_text_at Bytes n.now) (λ n c at. refl)))
