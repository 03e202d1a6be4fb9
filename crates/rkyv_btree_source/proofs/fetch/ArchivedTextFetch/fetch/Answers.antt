-- A text is brought as a byte string, which is UTF-8.
use Rattle.std.proofs.Common.{◌≡◌, ◌∙◌, subst, sym, List, ℕ}
use Rattle.std.specs.Prelude.{IsUtf8}
use Rattle.rkyv_btree_portable.specs.Text.{read_text}
use Rattle.rkyv_btree_source.proofs.Texts.{faulty_text, is_text, refuses_bytes}
use Rattle.rkyv_btree_source.proofs.fetch.ArchivedTextFetch.fetch.Goals as goal

pub returns-in-Err-clause-brings : goal.returns-in-Err-clause-brings
returns-in-Err-clause-brings g c b e = faulty_text b 0 c.args.pos c.args.pos c.in-Err.fault (c.in-Err.ensures.brings b e)

pub returns-then-is_utf8-clause-valid : goal.returns-then-is_utf8-clause-valid
returns-then-is_utf8-clause-valid g c =
    let utf8 : IsUtf8 c.as_bytes.result.now = rw c.if-is_utf8.true at c.is_utf8.ensures in
    let same : c.as_bytes.result.now ≡ read_text c.fetch.new.room c.in-Ok.place = cc in
    is_text c.fetch.new.room c.in-Ok.place c.in-Ok.ensures.valid (subst (λ (t : List ℕ). IsUtf8 t) same utf8)

pub returns-then-is_utf8-clause-brings : goal.returns-then-is_utf8-clause-brings
returns-then-is_utf8-clause-brings g c b e =
    let utf8 : IsUtf8 c.as_bytes.result.now = rw c.if-is_utf8.true at c.is_utf8.ensures in
    let there : c.as_bytes.result.now ≡ read_text c.fetch.new.room c.in-Ok.place = cc in
    let brought = c.in-Ok.ensures.brings b e in
    (is_text b c.args.pos brought.0 (subst (λ (t : List ℕ). IsUtf8 t) (there ∙ brought.1) utf8), brought.1)

pub returns-else-is_utf8-clause-brings : goal.returns-else-is_utf8-clause-brings
returns-else-is_utf8-clause-brings g c b e =
    let none : ¬ (IsUtf8 c.as_bytes.result.now) = rw c.if-is_utf8.false at c.is_utf8.ensures in
    let there : c.as_bytes.result.now ≡ read_text c.fetch.new.room c.in-Ok.place = cc in
    let brought = c.in-Ok.ensures.brings b e in
    refuses_bytes b c.args.pos brought.0 (λ utf8. none (subst (λ (t : List ℕ). IsUtf8 t) (sym (there ∙ brought.1)) utf8))
