-- Why bytes begin otherwise than a file of a type does.
use Rattle.std.proofs.Common.{ℕ, List}
use Rattle.rkyv_btree_typed.specs.TypeHeader.{HasHeader}
use Rattle.btreearc_lines.specs.Headings.{HasOther, IsHeaded, IsMisheaded}
use Rattle.btreearc_lines.specs.declared.heading.Heading.{Heading}
use Rattle.btreearc_lines.specs.declared.heading.Heading.TheVariants.{Typed, Untyped}
use Rattle.btreearc_lines.specs.declared.heading.HeadingFault.{HeadingFault}
use Rattle.btreearc_lines.specs.declared.heading.HeadingFault.TheVariants.{OtherVersion, OtherType}

none_headed : (name bytes : List ℕ) (fault : HeadingFault) → ¬ HasHeader name bytes → HasOther name bytes fault → (heading : Heading) → ¬ IsHeaded name bytes heading
none_headed name bytes fault none other Typed = none
none_headed name bytes (OtherVersion version) none other Untyped = λ unheaded. unheaded.1 version other
none_headed name bytes (OtherType found) none other Untyped = λ unheaded. unheaded.0 (other.0, other.1)

-- bytes with another header
pub misheaded : (name bytes : List ℕ) (fault : HeadingFault) → ¬ HasHeader name bytes → HasOther name bytes fault → IsMisheaded name bytes fault
misheaded name bytes fault none other = record { other = other; none = none_headed name bytes fault none other }
