mod ListLemmas
-- compare, sort
mod PlaceOrderLaws
mod Sorting
-- index_at
mod Search
-- edges_of, all_edges
mod Leading
-- graph_of
mod Added
mod LongerGraphs
mod FunctionPoints
mod GraphsSoFar
mod Sums
mod Closing
mod Turns
mod SmallGraphs
-- function_past_limit
mod CountLemmas
