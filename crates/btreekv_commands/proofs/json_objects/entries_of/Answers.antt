-- At the end all members are entries; or one is no text.
use Rattle.std.proofs.Common.{◌++◌, ◌∙◌, map, sym, ap, subst, append-nil}
use Rattle.std.specs.List.Sorted.{IsStrictlySortedBy}
use Rattle.std.specs.Map.{keys_of}
use Rattle.std.specs.String.{string_cmp}
use Rattle.serde_json.specs.View.{members_view}
use Rattle.btreekv_commands.proofs.ObjectsRead.{no_text, not_text, text_member, texts_increase, texts_view}
use Rattle.btreekv_commands.proofs.json_objects.entries_of.Goals as goal

pub returns-in_default : goal.returns-in_default
returns-in_default c =
    let so_far = map text_member c.loop-key.entries.items in
    let parts = c.loop-key.invariant ∙ ap (λ rest. so_far ++ rest) c.in-Some.ensures.steps in
    record {
      some = tt;
      increase = tt;
      none = λ entries is. not_text c.loop-key.entries.items c.in-Some.key c.in-Some.member c.next.new.self (no_text c.in-Some.member c.in_default.not-String) entries (sym (ap members_view parts) ∙ is);
      err = tt;
    }

pub returns-clause-some : goal.returns-clause-some
returns-clause-some c =
    let so_far = map text_member c.loop-key.entries.items in
    let all = c.loop-key.invariant ∙ (ap (λ rest. so_far ++ rest) c.in-None.ensures.steps.0 ∙ append-nil so_far) in
    ap members_view all ∙ texts_view c.loop-key.entries.items

pub returns-clause-increase : goal.returns-clause-increase
returns-clause-increase c =
    let so_far = map text_member c.loop-key.entries.items in
    let all = c.loop-key.invariant ∙ (ap (λ rest. so_far ++ rest) c.in-None.ensures.steps.0 ∙ append-nil so_far) in
    texts_increase c.loop-key.entries.items (subst (λ ms. IsStrictlySortedBy string_cmp (keys_of ms)) all c.into_iter-key-iterator.ensures.into_iter_gives.5)
