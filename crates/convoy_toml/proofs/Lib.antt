mod Rows
mod LinkRows
mod ShareRows
mod AgreementRows
mod PlaceRows
mod SlowRows
pub mod KeyLemmas
pub mod GivenTexts
pub mod SaidTargets
pub mod Divisors
pub mod AgreedLinks
pub mod FinerTicks
pub mod FinerAgreements
pub mod FinerDrafts
