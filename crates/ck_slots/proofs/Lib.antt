-- closed_lists_cover, closed_lists_have_targets
mod ClosedLists
-- justified_lists_reach, justified_lists_have_targets
mod JustifiedLists
-- Lists of facts, and tests of lists
mod Facts
mod Tests
-- Worked projects
mod ReachTexts
mod WorkedTargets
mod WorkedPrograms
