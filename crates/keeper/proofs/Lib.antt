pub mod AccountLemmas
pub mod LedgerLemmas
pub mod PlanLemmas
pub mod RowLemmas
pub mod Changing
pub mod Spending
