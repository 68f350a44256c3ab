-- How deep whole trees and rows nest
mod DepthLemmas
-- What readers ask of rows
mod RowQuestions
