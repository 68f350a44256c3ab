-- too_many_points
mod Names
-- function_drafts
mod Permuted
-- all_drafts
mod SoFar
