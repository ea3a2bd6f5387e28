mod Settled
mod Beside
