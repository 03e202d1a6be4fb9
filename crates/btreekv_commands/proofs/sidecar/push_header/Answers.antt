-- Seven fields, one after the other.
use Rattle.std.proofs.Common.{codes, length, rules}
use Rattle.std.specs.Int.{to_le_bytes, w64}
use Rattle.std.proofs.lemmas.Result.{on_ok_weaker}
use Rattle.sha2.specs.Sha256.{sha256}
use Rattle.btreekv_commands.specs.Sidecar.{header}
use Rattle.btreekv_commands.proofs.SidecarBytes.{and_then}
use Rattle.btreekv_commands.proofs.sidecar.push_header.Goals as goal

pub returns : goal.returns
unfolding header
returns c =
    let b = c.args.archive.now in
    let magic = c.extend_from_slice.new.self.items in
    let kind = c.push_number-2.new.out.items in
    let size = c.extend_from_slice-2.new.self.items in
    let digest = c.extend_from_slice-3.new.self.items in
    on_ok_weaker c.push_number-4.result (λ last.
    and_then c.args.out.now.items magic _ (codes "btreetop") _ (search rules) (and_then magic _ _ _ _ c.in_ok-push_number.ensures (and_then _ kind _ _ _ c.in_ok-push_number-2.ensures
    (and_then kind size _ (to_le_bytes w64 (length b)) _ (search rules) (and_then size digest _ (sha256 b) _ (search rules) (and_then digest _ _ _ _ c.in_ok-push_number-3.ensures last)))))) c.push_number-4.ensures
