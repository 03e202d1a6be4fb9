-- Entries of texts that are read one after another.
use Rattle.std.proofs.Common.{◌≡◌, ℕ, ◌+◌, ◌<◌, List, [], ◌∷◌, ◌++◌, length, map, take, drop, get_or, sym, ap, ◌∙◌, arith, append_assoc, length-take, string_bytes}
use Rattle.std.proofs.lemmas.List.{length-map, map-append, map_push, take_more, take-append-drop}
use Rattle.std.proofs.lemmas.List.Elements.{All-push}
use Rattle.btreekv_commands.specs.Building.{Native}
use Rattle.btreekv_commands.specs.Lines.{Entry}
use Rattle.btreekv_commands.specs.Texts.{texts_of}
use Rattle.btreekv_types.specs.Natives.{IsFirstBad}
use Rattle.btreekv_types.specs.Typed.{AreTyped, IsTypedEntry, Items, spelled_entry}

pub both : {A B : Type 0} {a b : A} {c d : B} → a ≡ b → c ≡ d → ◌≡◌ {A = A × B} (a, c) (b, d)
both {A} {B} {a} {b} {c} {d} e f = ap (λ (x : A). (x, c)) e ∙ ap (λ (y : B). (b, y)) f

module _ {A B : Type 0} (keys : Items A) (values : Items B) (texts : List Native) (i : ℕ) (d : Native) (inside : i < length texts) (taken : List (A × B)) (are : AreTyped keys values (map texts_of (take i texts)) taken) where
  -- one entry more
  pub read_more : (x : A × B) → keys.IsValue x.0 → values.IsValue x.1 → keys.text x.0 ≡ string_bytes (get_or texts i d).0 → values.text x.1 ≡ string_bytes (get_or texts i d).1
      → AreTyped keys values (map texts_of (take (i + 1) texts)) (taken ++ x ∷ [])
  read_more x key value key_text value_text = record {
    good = All-push (IsTypedEntry keys values) taken x are.good (key, value);
    texts_are =
        map_push (spelled_entry keys values) taken x
        ∙ (ap (λ (es : List Entry). es ++ spelled_entry keys values x ∷ []) are.texts_are
        ∙ (ap (λ (e : Entry). map texts_of (take i texts) ++ e ∷ []) (both key_text value_text)
        ∙ (sym (map_push texts_of (take i texts) (get_or texts i d)) ∙ ap (map texts_of) (sym (take_more texts i d inside)))));
  }

  -- or the first bad one
  pub first_bad : (IsBad : Entry → Type 0) (n : ℕ) → n ≡ i + 1 → IsBad (texts_of (get_or texts i d)) → IsFirstBad keys values IsBad (map texts_of texts) n
  first_bad IsBad n number bad = record {
    front = map texts_of (take i texts);
    entry = texts_of (get_or texts i d);
    back = map texts_of (drop (i + 1) texts);
    parts =
        ap (map texts_of) (sym (take-append-drop (i + 1) texts) ∙ (ap (λ xs. xs ++ drop (i + 1) texts) (take_more texts i d inside) ∙ append_assoc (take i texts) (get_or texts i d ∷ []) (drop (i + 1) texts)))
        ∙ map-append texts_of (take i texts) (get_or texts i d ∷ drop (i + 1) texts);
    number = omega (arith, number, length-map (take i texts) texts_of, length-take i texts, inside);
    before = taken;
    good = are;
    bad = bad;
  }
