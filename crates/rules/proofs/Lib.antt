mod Sums
mod Choosing
mod LongWays
