mod Seats
mod Showing
