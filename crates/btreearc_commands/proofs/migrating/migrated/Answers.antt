-- The native map has the last values, and its archive is written.
use Rattle.std.proofs.Common.{ℕ, List, Ok, refl, sym, subst, ◌∙◌}
use Rattle.btreearc_commands.specs.Archive.{IsArchived}
use Rattle.btreearc_commands.specs.Commands.{last_values}
use Rattle.btreearc_commands.specs.Opening.{entries_read}
use Rattle.btreearc_commands.proofs.Causes.{unbegun}
use Rattle.btreearc_commands.proofs.Renewed.{given_last, renewed, renewed_accepted, renewed_fits, unrenewed}
use Rattle.btreearc_commands.proofs.Starts.{headed_archive}
use Rattle.btreearc_commands.proofs.migrating.migrated.Goals as goal

pub returns-in-Ok-migrate-clause-ok : goal.returns-in-Ok-migrate-clause-ok
returns-in-Ok-migrate-clause-ok c =
    let b = c.args.map.now.buf.now in
    let at = c.args.map.now.pos in
    let last = last_values (entries_read b at) in
    let is = c.maps_are_given_by_entries.ensures Ok Ok (λ b at. refl) (λ b at. refl) b at ∙ given_last (entries_read b at) in
    let made = c.in-Ok-migrate.ensures in
    let exact = renewed c.args.heading _ last is c.write_heading.new.writer c.in-Ok-migrate.field-0 c.migrate.new.writer c.in-Ok.ensures.ok made.ok in
    subst (λ (bytes : List ℕ). IsArchived c.args.heading bytes last) (sym c.into_vec.ensures) (record {
      exact = exact;
      fits = renewed_fits c.args.heading _ last is c.write_heading.new.writer c.in-Ok-migrate.field-0 c.migrate.new.writer c.in-Ok.ensures.ok made.ok;
      headed = headed_archive c.args.heading last c.migrate.new.writer.contents c.in-Ok.ensures.named exact;
      accepted = renewed_accepted c.args.heading _ last is c.write_heading.new.writer c.in-Ok-migrate.field-0 c.migrate.new.writer c.in-Ok.ensures.ok made.ok made.strict;
    })

pub returns-in-Err-clause-err : goal.returns-in-Err-clause-err
returns-in-Err-clause-err c = unbegun c.args.heading (last_values (entries_read c.args.map.now.buf.now c.args.map.now.pos)) c.in-Err.fault c.in-Err.ensures.err

pub returns-in-Err-migrate-clause-err : goal.returns-in-Err-migrate-clause-err
returns-in-Err-migrate-clause-err c =
    let b = c.args.map.now.buf.now in
    let at = c.args.map.now.pos in
    let is = c.maps_are_given_by_entries.ensures Ok Ok (λ b at. refl) (λ b at. refl) b at ∙ given_last (entries_read b at) in
    unrenewed c.args.heading _ (last_values (entries_read b at)) is c.write_heading.new.writer c.in-Err-migrate.fault c.migrate.new.writer c.in-Ok.ensures.ok c.in-Err-migrate.ensures.err
