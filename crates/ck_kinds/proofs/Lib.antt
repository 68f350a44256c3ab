-- drafts_of
mod Drafted
-- act_of, op_of
mod ActLemmas
-- call_number
mod Numbered
mod PlacedCalls
mod Positions
-- calls_before, has_call_at
mod Ranks
-- compare
mod PathLemmas
