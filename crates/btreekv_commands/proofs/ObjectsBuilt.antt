-- The archive of the members of a JSON object, whose keys increase.
use Rattle.std.proofs.Common.{◌≡◌, ◌⊎◌, ℕ, List, refl, sym, subst, inl, inr, Vec, Result, Ok, Err, IfOk, IfErr}
use Rattle.std.specs.Cmp.Lexicographic.{nat_list_cmp_total}
use Rattle.rkyv_btree_convert.proofs.LastWins.{counts_last}
use Rattle.btreearc_lines.specs.declared.fault.ProgramFault.{ProgramFault}
use Rattle.btreearc_lines.specs.declared.fault.ProgramFault.TheVariants.{Memory, NotBuilt}
use Rattle.btreearc_lines.specs.declared.heading.Heading.{Heading}
use Rattle.btreekv_commands.specs.Building.{IsBuildFault, IsBuiltMap, IsUnbuiltMap, last_values}
use Rattle.btreekv_commands.specs.Commands.{Fails, Outputs}
use Rattle.btreekv_commands.specs.JsonObjects.{IsJsonObject}
use Rattle.btreekv_commands.specs.Lines.{Entry}
use Rattle.btreekv_commands.specs.Opening.{KeysIncrease}
use Rattle.btreekv_commands.specs.declared.command.Command.TheVariants.{BuildJson}

module _ (heading : Heading) (input : List ℕ) (entries : List Entry) (is : IsJsonObject input entries) (increase : KeysIncrease entries) where
  stay : last_values entries ≡ entries
  stay = (counts_last nat_list_cmp_total entries).stay increase

  pub builds : {Z : Type 0} (result : Result (Vec ℕ Z) ProgramFault) → IfOk result (λ bytes. IsBuiltMap heading bytes.items (last_values entries))
      → IfOk result (λ bytes. Outputs (BuildJson heading) input bytes.items 0)
  builds (Ok bytes) built = (refl, (entries, is, subst (IsBuiltMap heading bytes.items) stay built, increase))
  builds (Err fault) built = tt

  cause : (fault : ProgramFault) → IsBuildFault (IsUnbuiltMap heading (last_values entries)) fault → Fails (BuildJson heading) input fault
  cause (NotBuilt fault) h = (entries, is, subst (λ es. IsUnbuiltMap heading es fault) stay h)
  cause fault h = absurd h

  pub fails : {T : Type 0} (result : Result T ProgramFault) → IfErr result (λ fault. (fault ≡ Memory) ⊎ IsBuildFault (IsUnbuiltMap heading (last_values entries)) fault)
      → IfErr result (Fails (BuildJson heading) input)
  fails (Ok bytes) h = tt
  fails (Err fault) (inl is) = subst (Fails (BuildJson heading) input) (sym is) tt
  fails (Err fault) (inr h) = cause fault h
