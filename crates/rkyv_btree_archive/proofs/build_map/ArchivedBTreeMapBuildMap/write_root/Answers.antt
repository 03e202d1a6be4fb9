use Rattle.std.proofs.Common.{◌≡◌, ℕ, ◌+◌, ◌-◌, ◌<◌, Bool, true, false, List, [], ◌∷◌, length, ◌∙◌, ap, sym, subst, refl, arith}
use Rattle.std.proofs.lemmas.Result.{err_from_is_err_and}
use Rattle.rkyv_btree_portable.specs.Rounding.{round_up}
use Rattle.rkyv_btree_writer.specs.Padding.{padding}
use Rattle.rkyv_btree_writer.specs.Writing.{Writing, Write, position, Appended, Wrote, Stopped}
use Rattle.rkyv_btree_writer.specs.declared.fault.Fault.{Fault}
use Rattle.rkyv_btree_writer.specs.declared.fault.Fault.TheVariants.{Length, LengthOverflow, PositionOverflow, OffsetOverflow, Writer, Memory, Entry, OutOfOrder}
use Rattle.rkyv_btree_writer.proofs.WriteRuns.{wrote-one, wrote-both, stopped-one, stopped-front, stopped-behind}
use Rattle.rkyv_btree_writing_laws.specs.Image.{root_bytes, root_reaches, root_image}
use Rattle.rkyv_btree_writing_laws.specs.Serialising.{RootFault}
use Rattle.rkyv_btree_writing_laws.proofs.Accepting.{root_length}
use Rattle.rkyv_btree_writing_laws.proofs.Building.{root_refused}
use Rattle.rkyv_btree_writing_laws.proofs.Kept.{same_begins, then_begins, wrote_begins, refused_begins, stopped_begins, went_on, wrote_went}
use Rattle.rkyv_btree_archive.proofs.build_map.ArchivedBTreeMapBuildMap.write_root.Goals as goal

-- the map's bytes after its padding, at that position
abbrev the_root : ℕ → ℕ → ℕ → Write
the_root at root len = record { bytes = root_bytes at root len; reaches = root_reaches at root len }

root_wrote : (root len at : ℕ) (s m t : Writing) (bytes : List ℕ) → at ≡ round_up (position s) 4 → bytes ≡ root_bytes at root len → root_reaches at root len ≡ true → Wrote s (padding 4 (position s)) m → Appended m bytes t → Wrote s (root_image (position s) root len) t
root_wrote root len at s m t bytes is bytes_are near wrote put =
    let write = the_root (round_up (position s) 4) root len in
    wrote-both s (padding 4 (position s)) m (write ∷ []) t wrote
    (wrote-one m write t (ap (λ n. root_reaches n root len) (sym is) ∙ near) (subst (λ bs. Appended m bs t) (bytes_are ∙ ap (λ n. root_bytes n root len) is) put))

-- padding that isn't written, a map that would end too late, and one whose root node is too far away
padding_refused : {X : Type 0} (root len : ℕ) (s t : Writing) (fault : Fault X) → Stopped s (padding 4 (position s)) fault t → RootFault root len s fault t
padding_refused root len s t PositionOverflow h = stopped-front s (padding 4 (position s)) (the_root (round_up (position s) 4) root len ∷ []) PositionOverflow t h
padding_refused root len s t OffsetOverflow h = stopped-front s (padding 4 (position s)) (the_root (round_up (position s) 4) root len ∷ []) OffsetOverflow t h
padding_refused root len s t (Writer error) h = stopped-front s (padding 4 (position s)) (the_root (round_up (position s) 4) root len ∷ []) (Writer error) t h
padding_refused root len s t (Length mismatch) h = absurd h.refused
padding_refused root len s t LengthOverflow h = absurd h.refused
padding_refused root len s t (Memory error) h = absurd h.refused
padding_refused root len s t (Entry fault) h = absurd h.refused
padding_refused root len s t (OutOfOrder index) h = absurd h.refused

too_late : (pos at size : ℕ) → pos ≡ at → 4294967295 - 8 < pos → size ≡ 8 → 4294967295 < at + size
too_late pos at size is late eight = omega arith

late_root : {X : Type 0} (root len pos : ℕ) (s m : Writing) → Wrote s (padding 4 (position s)) m → pos ≡ position m → 4294967295 - 8 < pos → Stopped {E = X} s (root_image (position s) root len) PositionOverflow m
late_root {X} root len pos s m wrote at late =
    let bytes = root_bytes (round_up (position s) 4) root len in
    root_refused {X = X} root len s m m bytes PositionOverflow refl wrote (λ reaches. (refl, too_late pos (position m) (length bytes) at late (root_length (round_up (position s) 4) root len)))

unreached : (b : Bool) → (b ≡ true → false ≡ true) → b ≡ false
unreached false h = refl
unreached true h = sym (h refl)

far_root : {X : Type 0} (root len at : ℕ) (s m : Writing) → Wrote s (padding 4 (position s)) m → at ≡ round_up (position s) 4 → (root_reaches at root len ≡ true → false ≡ true) → Stopped {E = X} s (root_image (position s) root len) OffsetOverflow m
far_root {X} root len at s m wrote is far =
    let write = the_root (round_up (position s) 4) root len in
    stopped-behind {E = X} s (padding 4 (position s)) m (write ∷ []) OffsetOverflow m wrote
    (stopped-one {E = X} m write OffsetOverflow m (refl, ap (λ n. root_reaches n root len) (sym is) ∙ unreached (root_reaches at root len) far))

pub returns-then-len-gt4294967295-clause-err : goal.returns-then-len-gt4294967295-clause-err
returns-then-len-gt4294967295-clause-err g c = record {
  cause = (c.if-len-gt4294967295.true, refl);
  kept = same_begins (g.W.Writer.state c.args.writer.now) (g.W.Writer.state c.args.writer.now) refl;
}

pub returns-in_err-pos-clause-err : goal.returns-in_err-pos-clause-err
returns-in_err-pos-clause-err g c =
    let p = err_from_is_err_and c.from_residual.result c.from_residual.ensures.1 in
    rw (p.1, p.2) (record {
      cause = padding_refused c.args.resolver c.args.len (g.W.Writer.state c.args.writer.now) (g.W.Writer.state c.pad.new.writer) c.in_err-pos.field-0.0 c.in_err-pos.ensures.err;
      kept = stopped_begins (g.W.Writer.state c.args.writer.now) _ c.in_err-pos.field-0.0 (g.W.Writer.state c.pad.new.writer) c.in_err-pos.ensures.err;
    })

pub returns-then-pos-clause-err : goal.returns-then-pos-clause-err
returns-then-pos-clause-err g c = record {
  cause = late_root c.args.resolver c.args.len c.in_ok-pos.pos (g.W.Writer.state c.args.writer.now) (g.W.Writer.state c.pad.new.writer) c.in_ok-pos.ensures.ok c.in_ok-pos.ensures.end c.if-pos.true;
  kept = wrote_begins (g.W.Writer.state c.args.writer.now) _ (g.W.Writer.state c.pad.new.writer) c.in_ok-pos.ensures.ok;
}

pub returns-in-Err-clause-err : goal.returns-in-Err-clause-err
returns-in-Err-clause-err g c =
    let s = g.W.Writer.state c.args.writer.now in
    let t = g.W.Writer.state c.pad.new.writer in
    record {
      cause = subst (λ (n : ℕ). Stopped {E = g.row.W-Error.Denot} s (root_image (position s) n c.args.len) OffsetOverflow t) c.resolver.view_is
          (far_root c.resolver.inside.root c.args.len c.in_ok-pos.pos s t c.in_ok-pos.ensures.ok c.in_ok-pos.ensures.pos (λ near. c.in-Err.ensures.filled.fits.1 (c.if-len-gt4294967295.false, near)));
      kept = wrote_begins s _ t c.in_ok-pos.ensures.ok;
    }

pub returns-in_err-put-clause-err : goal.returns-in_err-put-clause-err
returns-in_err-put-clause-err g c =
    let root = c.resolver.inside.root in
    let s = g.W.Writer.state c.args.writer.now in
    let m = g.W.Writer.state c.pad.new.writer in
    let t = g.W.Writer.state c.put.new.writer in
    let refused = root_refused root c.args.len s m t _ c.in_err-put.field-0.0
    (c.in-Ok.ensures.filled.ok ∙ ap (λ n. root_bytes n root c.args.len) c.in_ok-pos.ensures.pos) c.in_ok-pos.ensures.ok c.in_err-put.ensures.err in
    let p = err_from_is_err_and c.from_residual-in_err-put.result c.from_residual-in_err-put.ensures.1 in
    rw (p.1, p.2) (record {
      cause = subst (λ (n : ℕ). RootFault n c.args.len s c.in_err-put.field-0.0 t) c.resolver.view_is refused;
      kept = then_begins s m t (wrote_begins s _ m c.in_ok-pos.ensures.ok) (refused_begins c.in_err-put.field-0.0 m _ t (c.in_err-put.ensures.err true));
    })

pub returns-clause-ok : goal.returns-clause-ok
returns-clause-ok g c =
    let s = g.W.Writer.state c.args.writer.now in
    let m = g.W.Writer.state c.pad.new.writer in
    let t = g.W.Writer.state c.put.new.writer in
    record {
      pos = c.in_ok-pos.ensures.pos;
      wrote = subst (λ (n : ℕ). Wrote s (root_image (position s) n c.args.len) t) c.resolver.view_is
          (root_wrote c.resolver.inside.root c.args.len c.in_ok-pos.pos s m t c.fill_root.new.bytes c.in_ok-pos.ensures.pos c.in-Ok.ensures.filled.ok (c.in-Ok.ensures.filled.fits.0 refl).1 c.in_ok-pos.ensures.ok c.in_ok-put.ensures.ok);
      last = c.in_ok-put.ensures.end;
      len = c.if-len-gt4294967295.false;
      went = went_on s m t (wrote_went s _ m c.in_ok-pos.ensures.ok) (_, c.in_ok-put.ensures.ok);
    }
