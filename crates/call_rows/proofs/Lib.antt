pub mod Standings
mod Seats
