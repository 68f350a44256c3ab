-- The definitions at work
mod Worked
