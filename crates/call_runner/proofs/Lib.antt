mod Codes
mod Courses
mod Outcomes
mod Received
mod Reported
mod Served
mod Unscripted
