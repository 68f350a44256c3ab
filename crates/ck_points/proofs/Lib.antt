-- edges_stay: evaluations, then statements, then functions
mod PassagesStay
mod StatementsStay
mod EdgesStay
-- places_differ: evaluations, then expressions, then points of evaluations, then statements and functions
mod Apart
mod ExpressionsApart
mod PointsApart
mod OrdinaryPoints
mod StatementsApart
-- edges_fit
mod EdgesFit
-- edges_are_few: evaluations, then statements and functions
mod NarrowEvaluations
mod FewEdges
-- places_are_numbered
mod OneNumber
-- graphs_are_sound
mod SoundGraphs
-- Worked graphs
mod GraphTexts
mod WorkedRows
mod WorkedStatements
mod WorkedExpressions
mod WorkedOrders
mod WorkedKinds
mod WorkedLimit
