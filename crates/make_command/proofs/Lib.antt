mod Counting
mod Laying
