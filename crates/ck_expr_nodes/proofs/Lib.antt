-- What a node stands for, where its parts are known
pub mod NodeLemmas
-- What stays when tables grow
pub mod Growth
