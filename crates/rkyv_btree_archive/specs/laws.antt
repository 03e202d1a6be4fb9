-- Laws that impls cite: those of archived pairs, tuples and options, and of numbers that are compared as `OrderedFloat`s.
pub mod ArrayArchived
pub mod ArrayCauses
pub mod EntryArchived
pub mod EntryCauses
pub mod JoinedArchived
pub mod JoinedCauses
pub mod OptionArchived
pub mod OptionCauses
pub mod OrderedArchived
pub mod VectorArchived
pub mod VectorCauses
