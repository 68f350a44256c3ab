-- What two nodes have in common
pub mod NodeSteps
-- Lists of pairs
pub mod PairLemmas
-- What is closed is compatible
pub mod ClosedPairs
