-- Projects by hand that meet what a report requires
pub mod FitLemmas
