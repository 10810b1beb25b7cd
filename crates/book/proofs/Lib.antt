mod Doing
mod AllRuns
