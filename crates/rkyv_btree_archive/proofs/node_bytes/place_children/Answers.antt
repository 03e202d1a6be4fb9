use Rattle.std.proofs.Common.{◌∙◌, ◌+◌, ◌*◌, ◌&&◌, [], ◌∷◌, length, ap, sym, refl, arith}
use Rattle.rkyv_btree_writing_laws.proofs.PointerRuns.{reach_end, stray_front}
use Rattle.rkyv_btree_archive.proofs.Pieces.{more_pointers_put}
use Rattle.rkyv_btree_archive.proofs.node_bytes.place_children.Goals as goal

pub returns-then-not-place_pointers-clause-reach : goal.returns-then-not-place_pointers-clause-reach
returns-then-not-place_pointers-clause-reach c = sym c.if-not-place_pointers.true ∙ stray_front c.args.pos c.args.pos c.args.children.now c.args.last c.place_pointers.result c.place_pointers.ensures.reach c.if-not-place_pointers.true refl

pub returns-clause-reach : goal.returns-clause-reach
returns-clause-reach c =
    ap (λ z. z && c.place_pointer.result) (sym c.if-not-place_pointers.false)
    ∙ reach_end c.args.pos c.args.pos (c.args.pos + 4 * length c.args.children.now) c.args.children.now c.args.last c.place_pointers.result c.place_pointer.result c.place_pointers.ensures.reach c.place_pointer.ensures.reach refl refl

pub returns-clause-items : goal.returns-clause-items
returns-clause-items c good =
    more_pointers_put c.args.node.now c.place_pointers.new.node c.place_pointer.new.node c.args.start c.args.pos (c.args.start + 4 * length c.args.children.now) (c.args.start + 4 * length c.args.children.now + 4) (c.args.pos + 4 * length c.args.children.now) c.args.children.now (c.args.last ∷ []) refl refl refl (omega (arith, c.requires.room)) (c.place_pointers.ensures.items c.if-not-place_pointers.false) (c.place_pointer.ensures.items good)
